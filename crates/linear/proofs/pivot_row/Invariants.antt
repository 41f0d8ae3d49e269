use mathlib.Core.Path.{◌≡◌}
use Prim.Native.Nat.{◌+◌, ◌-◌, ◌<◌}
use Rattle.linear.specs.Linear.{better_row, pivot_row}
use Rattle.folds.specs.Run.{run}
use Rattle.linear.proofs.pivot_row.Given as goal

abbrev pub invariant-loop-k : goal.invariant-loop-k
invariant-loop-k l = (l.best < 8) × (run (better_row l.m l.i) (l.best + 1) 8 l.best ≡ pivot_row l.m l.i)

abbrev pub decreases-loop-k : goal.decreases-loop-k
decreases-loop-k l = 8 - l.best
