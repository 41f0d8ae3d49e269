-- No more cases differ than were replayed.
use Rattle.std.proofs.Common.{◌≤◌}
use Rattle.recorded.proofs.replay_all.Given as goal

abbrev pub invariant-loop-i : goal.invariant-loop-i
invariant-loop-i g l = l.differ ≤ l.i
