-- The local step of an index and its scale: the formulas of `local_step_per_corner` in step.rs and of `scale_at` in mod.rs, with their
-- operations in their order. Assumes nothing.
use Rattle.std.specs.Prelude.{Bool, cond, ◌&&◌, ℕ, Option, Some, None, eqb, Float}
use Rattle.std.specs.Float.Ieee.{of_bits, lt, add, sub, mul}
use Rattle.std.specs.Float.Ieee.Scale.{finite}
use Rattle.float.specs.Constants.{zero, half}
use Rattle.float.specs.Scalar.{norm_of}
use Rattle.float.specs.declared.Distance.{Distance}
use Rattle.float.specs.Remainder.{length_of}
use Rattle.folds.specs.Arith.{◌⊕◌, ◌⊖◌, ◌⊗◌}
use Rattle.offsets.specs.declared.Offset.{Offset}
use Rattle.offsets.specs.Offsets.{next_u, prev_u, next_v, prev_v}
use Rattle.view.specs.View.{View, rank_at, present}

-- the distance from rank p to rank q
unfoldable pub spacing : (ℕ → Float) → (ℕ → Float) → ℕ → ℕ → Distance
unfolding norm_of sub
spacing x y p q = length_of (x q ⊖ x p) (y q ⊖ y p)

-- The step of rank m along an axis, whose neighbours are at the offsets `before` and `after`: by a central difference where both are
-- present, by a one-sided one where one is.
unfoldable pub axis_step : View → Offset → Offset → ℕ → Option Float
unfolding spacing mul of_bits
axis_step w before after m =
    cond (present w m before)
    (cond (present w m after) (Some ((spacing w.x w.y (rank_at w m before) (rank_at w m after)).value ⊗ half)) (Some (spacing w.x w.y (rank_at w m before) m).value))
    (cond (present w m after) (Some (spacing w.x w.y m (rank_at w m after)).value) None)

-- the mean of the steps along both axes, or the only one
unfoldable pub mean_step : Option Float → Option Float → Option Float
unfolding add mul of_bits
mean_step (Some s) (Some t) = Some ((s ⊕ t) ⊗ half)
mean_step (Some s) None = Some s
mean_step None b = b

-- "the local step where it is finite and positive", else 0, which stands for no step
unfoldable pub kept_step : Option Float → Float
unfolding lt of_bits
kept_step (Some s) = cond (lt zero s && finite s) s zero
kept_step None = zero

-- the local step of rank m: the mean of the steps along u and along v, where it is finite and positive, else 0
unfoldable pub local_step : View → ℕ → Float
unfolding axis_step mean_step kept_step
local_step w m = kept_step (mean_step (axis_step w prev_u next_u m) (axis_step w prev_v next_v m))

-- With the step flag, the step of the index at place m: "For a repeated index the larger cell's entry wins", and an index stands at the
-- last of its ranks.
unfoldable pub step_at : View → Bool → ℕ → Float
unfolding local_step of_bits
step_at w aware m = cond (aware && eqb (w.by_idx m) m) (local_step w m) zero

-- "Scale is the cell size, or with the step flag the local step where it is finite and positive": the scale of rank k's index, where
-- `steps` has the steps of the indices at their places
unfoldable pub scale_at : View → (ℕ → Float) → Float → ℕ → Float
unfolding lt of_bits
scale_at w steps size k = let s = steps (w.by_idx k) in cond (lt zero s) s size
