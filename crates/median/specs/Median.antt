-- The median of a list of f32. Assumes nothing.
use Rattle.std.specs.Prelude.{List, ℕ, ◌/◌, length, get_or, Float}
use Rattle.std.specs.Float.{nan}
use Rattle.std.specs.Float.Ieee.{lt}
use Rattle.folds.specs.Lists.{list_of}
use Rattle.sort.specs.Sorted.{sort}

-- "A median of n is entry n/2, rounded down, from 0 in rising order."
unfoldable pub median_of : List Float → Float
unfolding sort lt
median_of l = get_or (sort lt l) (length l / 2) nan

-- the first n numbers of an array
abbrev pub first_of : ℕ → List Float → List Float
first_of n v = list_of n (λ (k : ℕ). get_or v k nan)
