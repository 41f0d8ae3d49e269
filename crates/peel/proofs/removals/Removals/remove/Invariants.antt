use Rattle.std.proofs.Common.{◌+◌}
use Rattle.peel.specs.Work.{Removed}
use Rattle.peel.proofs.removals.Removals.remove.Given as goal

abbrev pub invariant-loop-x : goal.invariant-loop-x
invariant-loop-x l = Removed l.self.queue l.from (l.from + l.x-index) l.initial.state l.state
