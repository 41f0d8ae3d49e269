use native.Mathlib.Omega.{arith}
use borrow.Author.Rules.{rules}
use Rattle.median.proofs.Sorting.{key-in-order}
use Rattle.close_pairs.specs.Ranks.{rank_in}
use Rattle.close_pairs.proofs.order_of.Goals as goal

pub returns : goal.returns
returns c =
    let g = c.args in
    let k = c.keys_in_order-a.ensures in
    record { is = c.filled.ensures (rank_in g.x.now g.n) (λ i r h p. let e = key-in-order k 0 i h (omega arith) in rw (← e) (search rules)); numbers = k.numbers }
