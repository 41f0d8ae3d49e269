use Rattle.std.proofs.Common.{◌≡◌, ℕ}
use Rattle.peel.specs.Work.{index_at, last_below, with_index}
use Rattle.peel.proofs.Chaining.{past}
use Rattle.peel.proofs.Searching.{Putting}
use Rattle.peel.proofs.removals.Removals.consider.Given as goal

abbrev pub invariant-loop-next : goal.invariant-loop-next
invariant-loop-next l =
    let n = l.round.links.now.sheet.lattice.count in
    let ranks = l.round.links.now.sheet.lattice.ranks.now in
    let b = index_at ranks l.k in
    (m : ℕ) × (l.next ≡ last_below (with_index ranks b) m) × Putting n ranks b m l.initial.self.marks l.initial.self.queue l.initial.self.tail l.self.marks l.self.queue l.self.tail

abbrev pub decreases-loop-next : goal.decreases-loop-next
decreases-loop-next l = past l.next
