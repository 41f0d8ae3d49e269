use Rattle.std.proofs.Common.{rules}
use Rattle.step.proofs.how_many.Goals as goal

pub returns : goal.returns
returns c = c.counted.ensures _ (λ k r h p. search rules)
