use Prim.Native.Nat.{◌+◌, ◌*◌, ◌-◌, ◌^◌, ◌≤◌, ◌<◌}
use Rattle.float.proofs.raised.Given as goal

abbrev pub invariant-loop-s : goal.invariant-loop-s
invariant-loop-s l = (l.s * l.s + 1 ≤ l.n + l.s) × (l.s < 2 ^ 27)

abbrev pub decreases-loop-s : goal.decreases-loop-s
decreases-loop-s l = 2 ^ 27 - l.s
