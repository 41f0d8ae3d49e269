use native.Mathlib.Omega.{arith}
use borrow.Author.Rules.{rules}
use Rattle.median.proofs.Sorting.{keyed-in-order}
use Rattle.median.proofs.keys_in_order.Goals as goal

pub returns : goal.returns
returns c = keyed-in-order (omega arith) c.in_order.ensures (λ i r h p. search rules)
