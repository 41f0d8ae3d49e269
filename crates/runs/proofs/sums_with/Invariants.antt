-- The sums before i are up by their numbers.
use Rattle.std.proofs.Common.{ℕ, ◌+◌, get_or}
use Rattle.folds.specs.Column.{Filling}
use Rattle.runs.specs.Run.{summed}
use Rattle.runs.proofs.sums_with.Given as goal

abbrev pub invariant-loop-i : goal.invariant-loop-i
invariant-loop-i l = Filling l.fn.run.new_sums 0 (λ (j : ℕ). get_or l.fn.run.new_sums j 0 + get_or l.tally (get_or summed j 0) 0) l.i l.sums
