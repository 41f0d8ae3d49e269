use mathlib.Core.Path.{◌≡◌}
use Prim.Native.Nat.{◌+◌}
use Rattle.folds.specs.Below.{first}
use Rattle.linear.specs.Linear.{larger_than}
use Rattle.linear.proofs.next_larger.Given as goal

abbrev pub invariant-loop-k : goal.invariant-loop-k
invariant-loop-k l = first (larger_than l.m l.i l.best) l.k 8 ≡ first (larger_than l.m l.i l.best) (l.best + 1) 8
