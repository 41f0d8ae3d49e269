-- Matrices of f32, each a list of its rows. Assumes nothing.
use Rattle.std.specs.Prelude.{ℕ, List, [], get_or, set, Float}
use Rattle.std.specs.Float.{nan}

-- entry j of a row
abbrev pub entry_at : List Float → ℕ → Float
entry_at row j = get_or row j nan

abbrev pub matrix_row : List (List Float) → ℕ → List Float
matrix_row m i = get_or m i []

-- entry j of row i
abbrev pub entry : List (List Float) → ℕ → ℕ → Float
entry m i j = entry_at (matrix_row m i) j

-- m with x as entry j of row i
abbrev pub with_entry : List (List Float) → ℕ → ℕ → Float → List (List Float)
with_entry m i j x = set m i (set (matrix_row m i) j x)
