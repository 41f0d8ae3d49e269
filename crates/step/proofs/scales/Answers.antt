use Rattle.std.proofs.Common.{rules}
use lib.Ieee.{of_bits}
use Rattle.step.proofs.scales.Goals as goal

pub returns : goal.returns
unfolding of_bits
returns c xs ys = c.filled.ensures _ (λ k r h p. search rules)
