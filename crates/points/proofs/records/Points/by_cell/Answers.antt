use Rattle.std.proofs.Common.{◌≡◌, ℕ, rules}
use Rattle.cells.specs.Points.{key_of}
use Rattle.sort.specs.Packed.{entries_of}
use Rattle.points.specs.Held.{nth}
use Rattle.points.proofs.Ordering.{entries-placed}
use Rattle.points.proofs.records.Points.by_cell.Goals as goal

pub invariant_of-result : goal.invariant_of-result
invariant_of-result c =
    let s = c.args.self.now in
    let key = λ (i : ℕ). key_of (nth s i) in
    let e : c.in_order.result ≡ entries_of s.layout.count key = c.in_order.ensures key (λ i r h p. search rules) in
    record { placed = rw e (entries-placed s.layout.count key s.fit.records.few) }

pub returns-clause-ordered : goal.returns-clause-ordered
returns-clause-ordered c = c.in_order.ensures (λ (i : ℕ). key_of (nth c.args.self.now i)) (λ i r h p. search rules)
