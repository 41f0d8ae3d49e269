use mathlib.Core.Path.{◌≡◌}
use Prim.Native.Nat.{◌+◌}
use Rattle.folds.specs.Run.{run}
use Rattle.linear.specs.Linear.{reduce_row}
use Rattle.linear.proofs.reduce_rows.Given as goal

abbrev pub invariant-loop-k : goal.invariant-loop-k
invariant-loop-k l = run (reduce_row l.p l.i l.inverse) l.k 8 l.m ≡ run (reduce_row l.p l.i l.inverse) (l.i + 1) 8 l.initial.m
