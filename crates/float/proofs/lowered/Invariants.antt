use Prim.Native.Nat.{◌^◌, ◌<◌}
use Rattle.float.proofs.lowered.Given as goal

abbrev pub invariant-loop-s : goal.invariant-loop-s
invariant-loop-s l = l.s < 2 ^ 27

abbrev pub decreases-loop-s : goal.decreases-loop-s
decreases-loop-s l = l.s
