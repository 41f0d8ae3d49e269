use Rattle.std.proofs.Common.{◌∙◌}
use Rattle.refusals.proofs.Number.{handed-on}
use Rattle.kept.proofs.Cases.{answer-from}
use Rattle.kept.proofs.keep.Goals as goal

pub returns-in_err-keep_counted-clause-answer : goal.returns-in_err-keep_counted-clause-answer
returns-in_err-keep_counted-clause-answer c =
    handed-on _ _ c.from_residual.ensures.1 ∙ answer-from c.args.file.now _ c.in_err-keep_counted.ensures.kept

pub returns-clause-answer : goal.returns-clause-answer
returns-clause-answer c = answer-from c.args.file.now _ c.in_ok-keep_counted.ensures.kept
