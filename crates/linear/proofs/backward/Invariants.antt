use mathlib.Core.Path.{◌≡◌}
use Rattle.folds.specs.Run.{down}
use Rattle.linear.specs.Linear.{backward_column}
use Rattle.linear.proofs.backward.Given as goal

abbrev pub invariant-loop-i : goal.invariant-loop-i
invariant-loop-i l = down (backward_column l.m) l.i l.x ≡ down (backward_column l.m) 8 l.initial.x
