use Rattle.view.specs.Seen.{lattice_in}
use Rattle.offsets.specs.Offsets.{places}
use Rattle.patches.specs.Search.{SearchingIn}
use Rattle.patches.proofs.labels.Given as goal

abbrev pub invariant-loop-s : goal.invariant-loop-s
invariant-loop-s l =
    SearchingIn (lattice_in l.linked.lattice) (places l.linked.sides.now) l.dropped l.s l.search.tail l.search.visited l.search.label l.search.queue l.search.tail
