use Rattle.std.proofs.Common.{◌≡◌}
use Rattle.components.specs.Components.{largest_at}
use Rattle.components.proofs.labelled.Labelled.winner.Given as goal

abbrev pub invariant-loop-s : goal.invariant-loop-s
invariant-loop-s l = l.r ≡ largest_at l.size l.s
