use Rattle.std.proofs.Common.{refl}
use Rattle.refusals.proofs.Number.{handed-on}
use Rattle.judging.proofs.Sheets.{refused-sheet}
use Rattle.kept_joined.specs.Answer.{joined_answer_of, joined_rows_after}
use Rattle.kept_joined.proofs.Cases.{fit, answered, rows-joined}
use Rattle.kept_joined.proofs.keep_joined.Goals as goal

pub returns-in_err-sheet-clause-answer : goal.returns-in_err-sheet-clause-answer
unfolding joined_answer_of
returns-in_err-sheet-clause-answer c = rw (refused-sheet _ _ c.in_err-sheet.ensures) (handed-on _ _ c.from_residual.ensures.1)

pub returns-in_err-sheet-clause-rows : goal.returns-in_err-sheet-clause-rows
unfolding joined_rows_after
returns-in_err-sheet-clause-rows c = rw (refused-sheet _ _ c.in_err-sheet.ensures) refl

pub keep_sheet-requires : goal.keep_sheet-requires
keep_sheet-requires c =
    fit c.args.left.now c.args.right.now c.args.m c.args.rows.now (λ k. (c.type_inv.left k).fits) (λ k. (c.type_inv.right k).fits) c.in_ok-sheet.sheet c.in_ok-sheet.ensures

pub returns-clause-answer : goal.returns-clause-answer
returns-clause-answer c =
    answered c.args.left.now c.args.right.now c.args.m c.args.rows.now (λ k. (c.type_inv.left k).fits) (λ k. (c.type_inv.right k).fits) c.in_ok-sheet.sheet c.in_ok-sheet.ensures c.keep_sheet.ensures.kept

pub returns-clause-rows : goal.returns-clause-rows
returns-clause-rows c =
    rows-joined c.args.left.now c.args.right.now c.args.m c.args.rows.now (λ k. (c.type_inv.left k).fits) (λ k. (c.type_inv.right k).fits) c.in_ok-sheet.sheet c.in_ok-sheet.ensures c.keep_sheet.ensures.rows
