-- Which steps lie too far from their median: `flag_step_deviations` in step.rs. The steps are given at the places of their indices; 0
-- is no step. Assumes nothing.
use Rattle.std.specs.Prelude.{Bool, ◌&&◌, ◌||◌, List, ℕ, leb, length, Float}
use Rattle.std.specs.Float.Ieee.{of_bits, lt, add, mul, div}
use Rattle.float.specs.Constants.{zero, one}
use Rattle.folds.specs.Arith.{◌⊕◌, ◌⊗◌, ◌⊘◌}
use Rattle.folds.specs.Lists.{listed}
use Rattle.median.specs.Median.{median_of}

-- the steps of n places, in their order
unfoldable pub steps_in : (ℕ → Float) → ℕ → List Float
unfolding listed lt of_bits
steps_in steps n = listed (λ (k : ℕ). lt zero (steps k)) steps n

-- "step outside median/(1+t) to median·(1+t)"
unfoldable pub is_step_outside : Float → Float → Float → Bool
unfolding lt add mul div of_bits
is_step_outside median t s = lt s (median ⊘ (one ⊕ t)) || lt (median ⊗ (one ⊕ t)) s

-- rule 4's test of the step at place m. The Rust's test that the median is positive and finite never fails (proofs/Finite.antt), so it is
-- left out: "step outside median/(1+t) to median·(1+t), threshold t above 0, at least three steps"
unfoldable pub deviates : (ℕ → Float) → ℕ → Float → ℕ → Bool
unfolding lt of_bits steps_in is_step_outside median_of
deviates steps n t m =
    lt zero t && (leb 3 (length (steps_in steps n)) && (lt zero (steps m) && is_step_outside (median_of (steps_in steps n)) t (steps m)))
