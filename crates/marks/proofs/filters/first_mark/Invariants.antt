use Rattle.std.proofs.Common.{ℕ, Bool, ◌≡◌}
use Rattle.folds.specs.Below.{first}
use Rattle.marks.specs.Filters.{filter_count}
use Rattle.marks.specs.Byte.{has_mark, first_mark}
use Rattle.marks.proofs.filters.first_mark.Given as goal

abbrev pub by : ℕ → ℕ → Bool
by marks f = has_mark f marks

abbrev pub invariant-loop-f : goal.invariant-loop-f
invariant-loop-f l = first (by l.marks) l.f-index filter_count ≡ first_mark l.marks
