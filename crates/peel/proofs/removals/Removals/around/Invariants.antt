use Rattle.std.proofs.Common.{ℕ}
use Rattle.offsets.specs.Offsets.{places}
use Rattle.peel.specs.Work.{Beside}
use Rattle.peel.specs.Steps.{SearchedBy}
use Rattle.peel.proofs.removals.Removals.around.Given as goal

abbrev pub invariant-loop-o : goal.invariant-loop-o
invariant-loop-o l = SearchedBy l.round (λ (k : ℕ). Beside l.round.links.now.sheet.lattice.ranks.now (places l.round.links.now.sides.now) l.o-index l.x k) l.initial.self l.self
