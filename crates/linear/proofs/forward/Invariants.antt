use mathlib.Core.Path.{◌≡◌}
use Rattle.folds.specs.Run.{run}
use Rattle.linear.specs.Linear.{forward_column}
use Rattle.linear.proofs.forward.Given as goal

abbrev pub invariant-loop-i : goal.invariant-loop-i
invariant-loop-i l = run (forward_column l.m) l.i 8 l.x ≡ run (forward_column l.m) 0 8 l.initial.x
