-- The ranks in the order of x. Assumes nothing.
use Rattle.std.specs.Prelude.{◌≡◌, List, ℕ, ◌<◌, get_or, Float}
use Rattle.std.specs.Float.{nan}
use Rattle.folds.specs.Column.{column}
use Rattle.view.specs.View.{max_points}
use Rattle.sort.specs.Packed.{placed}
use Rattle.median.specs.Keys.{Number, key_at}

-- the rank at place i of the order of x
abbrev pub rank_in : List Float → ℕ → ℕ → ℕ
rank_in xs n i = placed (key_at xs) n i

pub record OrderedByX (xs : List Float) (n : ℕ) (r : List ℕ) : Type 0 where
  pub is : r ≡ column max_points 0 n (rank_in xs n)
  pub numbers : (k : ℕ) → k < n → Number (get_or xs k nan)
