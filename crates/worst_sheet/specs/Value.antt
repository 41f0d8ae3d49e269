-- For the code alone: what it asks for. Assumes nothing.
use Rattle.std.specs.Prelude.{ℕ, ◌+◌, Option, Some, None}
use Rattle.view.specs.View.{max_points}

-- what the code asks for as a number of points; one more than the most points for nothing
abbrev pub asked_in : Option ℕ → ℕ
asked_in None = max_points + 1
asked_in (Some n) = n
