use mathlib.Core.Path.{◌≡◌}
use Rattle.folds.specs.Run.{run}
use Rattle.linear.specs.Linear.{eliminate_column}
use Rattle.linear.proofs.solve.Given as goal

abbrev pub invariant-loop-i : goal.invariant-loop-i
invariant-loop-i l = run eliminate_column l.i 8 l.s ≡ run eliminate_column 0 8 l.initial.s
