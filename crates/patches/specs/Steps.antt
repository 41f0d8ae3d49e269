-- What the steps of the search make of its arrays. These are the contracts of its methods. Assumes nothing.
use Rattle.std.specs.Prelude.{ℕ}
use Rattle.offsets.specs.Offsets.{places}
use Rattle.view.specs.Seen.{lattice_in}
use Rattle.patches.specs.Search.{Visit, Advanced}
use Rattle.patches.specs.declared.LinkedLattice.{LinkedLattice}
use Rattle.patches.specs.declared.search.Search.{Search}

abbrev pub VisitOf : ℕ → ℕ → Search → Search → Type 0
VisitOf s j a b = Visit s j a.visited a.label a.queue a.tail b.visited b.label b.queue b.tail

abbrev pub AdvancedOf : LinkedLattice → ℕ → ℕ → Search → ℕ → ℕ → Search → Type 0
AdvancedOf w s head a s' head' b = Advanced (lattice_in w.lattice) (places w.sides.now) s head a.visited a.label a.queue a.tail s' head' b.visited b.label b.queue b.tail
