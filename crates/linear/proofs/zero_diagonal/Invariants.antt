use mathlib.Core.Bool.{false}
use mathlib.Core.Path.{◌≡◌}
use Prim.Native.Nat.{◌≤◌}
use Rattle.folds.specs.Below.{some}
use Rattle.linear.specs.Linear.{zero_at}
use Rattle.linear.proofs.zero_diagonal.Given as goal

abbrev pub invariant-loop-i : goal.invariant-loop-i
invariant-loop-i l = (l.i ≤ 8) × (some (zero_at l.m) l.i ≡ false)
