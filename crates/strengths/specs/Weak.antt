-- Which points are weak (document 02, A.5, "Weak ends of a patch": the filter `weak_leaf_peel`). Assumes nothing.
use Rattle.std.specs.Prelude.{Bool, List, ℕ, get_or, Float}
use Rattle.std.specs.Float.{nan}
use Rattle.std.specs.Float.Ieee.{lt, mul}
use Rattle.folds.specs.Arith.{◌⊗◌}
use Rattle.folds.specs.Lists.{list_of}
use Rattle.folds.specs.Column.{column}
use Rattle.folds.specs.Marked.{bit}
use Rattle.view.specs.View.{max_points}
use Rattle.median.specs.Median.{median_of, first_of}

-- the fraction times the median of all points' strengths, marked or not, each cell once: one f32 product
unfoldable pub threshold : Float → List Float → Float
unfolding median_of mul
threshold fraction l = fraction ⊗ median_of l

-- the strength at k is strictly below it
unfoldable pub is_weak : Float → List Float → ℕ → Bool
unfolding threshold lt
is_weak fraction l k = lt (get_or l k nan) (threshold fraction l)

-- 1 at each weak one of n points, by rank, and 0 elsewhere
unfoldable pub weak_of : ℕ → List Float → Float → List ℕ
unfolding column is_weak list_of
weak_of n strength fraction = column max_points 0 n (λ k. bit (is_weak fraction (first_of n strength) k))
