-- The steps of a round, of the code's structs. Assumes nothing.
use Rattle.std.specs.Prelude.{Bool, List, ℕ, length}
use Rattle.offsets.specs.Offsets.{places}
use Rattle.peel.specs.Work.{leaf_at, Whole, Searched, Beside, BesideQueued}
use Rattle.peel.specs.declared.round.Round.{Round}
use Rattle.peel.specs.declared.removals.Removals.{Removals}

abbrev pub leaf_in : Round → ℕ → Bool
leaf_in r k = leaf_at r.links.now.sheet.lattice.count r.links.now.sheet.lattice.ranks.now r.state.now (places r.links.now.sides.now) k

abbrev pub whole_in : Round → Removals → Type 0
whole_in r a = Whole r.links.now.sheet.lattice.count r.links.now.sheet.lattice.ranks.now a.marks

abbrev pub SearchedBy : Round → (ℕ → Type 0) → Removals → Removals → Type 0
SearchedBy r Met a b = Searched r.links.now.sheet.lattice.count r.links.now.sheet.lattice.ranks.now r.state.now (places r.links.now.sides.now) Met a.marks a.queue a.tail b.marks b.queue b.tail

-- the ranks at the sides of rank x
abbrev pub beside_in : Round → ℕ → ℕ → Type 0
beside_in r x k = Beside r.links.now.sheet.lattice.ranks.now (places r.links.now.sides.now) (length (places r.links.now.sides.now)) x k

abbrev pub beside_queued_in : Round → List ℕ → ℕ → ℕ → ℕ → Type 0
beside_queued_in r queue from end k = BesideQueued r.links.now.sheet.lattice.ranks.now (places r.links.now.sides.now) queue from end k
