use Rattle.std.proofs.Common.{rules}
use Rattle.predict.specs.Fills.{fills_of}
use Rattle.predict.proofs.fills.Goals as goal

pub returns : goal.returns
unfolding fills_of
returns c = c.filled.ensures _ (λ k r h p. search rules)
