use Rattle.std.proofs.Common.{◌+◌, ◌-◌}
use Rattle.merged.proofs.Merging.{Merging}
use Rattle.merged.proofs.halves.Halves.merge.Given as goal

abbrev pub invariant-loop-step : goal.invariant-loop-step
invariant-loop-step l = Merging l.self l.order l.count l.left l.right

abbrev pub decreases-loop-step : goal.decreases-loop-step
decreases-loop-step l = l.self.left.count + l.self.right.count - (l.left + l.right)
