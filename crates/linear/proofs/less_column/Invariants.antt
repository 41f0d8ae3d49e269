use mathlib.Core.Path.{◌≡◌}
use Rattle.folds.specs.Run.{run}
use Rattle.linear.specs.Linear.{less_entry}
use Rattle.linear.proofs.less_column.Given as goal

abbrev pub invariant-loop-k : goal.invariant-loop-k
invariant-loop-k l = run (less_entry l.m l.i l.t) l.k l.end l.x ≡ run (less_entry l.m l.i l.t) l.from l.end l.initial.x
