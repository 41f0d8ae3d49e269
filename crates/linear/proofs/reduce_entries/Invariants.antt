use mathlib.Core.Path.{◌≡◌}
use Rattle.folds.specs.Run.{run}
use Rattle.linear.specs.Linear.{reduce_entry}
use Rattle.linear.proofs.reduce_entries.Given as goal

abbrev pub invariant-loop-j : goal.invariant-loop-j
invariant-loop-j l = run (reduce_entry l.p l.k l.t) l.j l.end l.m ≡ run (reduce_entry l.p l.k l.t) l.from l.end l.initial.m
