use Rattle.std.proofs.Common.{◌<◌}
use Rattle.view.specs.View.{max_points}
use Rattle.view.specs.Seen.{lattice_in}
use Rattle.offsets.specs.Offsets.{places}
use Rattle.patches.proofs.Searching.{Expanding}
use Rattle.patches.proofs.search.Search.expand.Given as goal

abbrev pub invariant-loop-o : goal.invariant-loop-o
invariant-loop-o l =
    (l.x < max_points)
    × Expanding (lattice_in l.linked.lattice) (places l.linked.sides.now) l.s l.head l.x l.initial.self.visited l.initial.self.label l.initial.self.queue l.initial.self.tail l.self.visited l.self.label l.self.queue l.self.tail l.o-index
