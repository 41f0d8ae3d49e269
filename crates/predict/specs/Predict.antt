-- "the position `predict_grid_position` finds from the kept points on the square lattice, with its number of pairs, or say that no pair exists"
-- (document 02, A.7): the rule of predict.rs with its operations in its order, over any list of offsets and anything that is found at them.
-- Assumes nothing.
use Rattle.std.specs.Prelude.{Bool, not, ◌&&◌, ◌||◌, List, ℕ, Option, None, Some, eqb, pos, neg_ℤ, length, get_or, Float}
use Rattle.std.proofs.Math.Bool.{cond}
use Rattle.std.specs.Int.Signed.{lt_z}
use Rattle.std.specs.Float.Ieee.{binary32, of_bits, of_int, add, mul, div}
use Rattle.folds.specs.Arith.{◌⊕◌, ◌⊗◌, ◌⊘◌}
use Rattle.folds.specs.Below.{tally, sum_of}
use Rattle.float.specs.Constants.{half}
use Rattle.offsets.specs.declared.Offset.{Offset}
use Rattle.offsets.specs.Offsets.{±0, offset, own}
use Rattle.predict.specs.declared.PredictedPosition.{PredictedPosition}

-- what is predicted for a cell, if there is a pair
abbrev pub Prediction : Type 0
Prediction = Option PredictedPosition

-- the offset (−du, −dv)
abbrev pub opposite : Offset → Offset
opposite o = offset (neg_ℤ o.du) (neg_ℤ o.dv)

-- "of each pair of opposites the lexicographically positive one": all are passed over with du below 0, or du = 0 and dv below 0
abbrev pub is_forward : Offset → Bool
is_forward o = not (lt_z o.du ±0 || (not (lt_z ±0 o.du) && lt_z o.dv ±0))

module _ (sides : List Offset) where
  abbrev pub side_at : ℕ → Offset
  side_at i = get_or sides i own

  -- "0.5 · (x forward + x backward)", where f gives the x, or the y, of the point at an offset from the cell
  abbrev pub midpoint : (Offset → Float) → ℕ → Float
  midpoint f i = half ⊗ (f (side_at i) ⊕ f (opposite (side_at i)))

  -- there o: the point at the offset o from the cell is kept
  module _ (there : Offset → Bool) where
    -- "where both the point at the offset and the one at its opposite are kept"
    abbrev pub is_pair : ℕ → Bool
    is_pair i = is_forward (side_at i) && (there (side_at i) && there (opposite (side_at i)))

    -- "its number of pairs"
    unfoldable pub pair_count : ℕ
    unfolding tally
    pair_count = tally is_pair (length sides)

    -- "added to a sum that begins at +0", over the offsets in their order, which in square_sides is that of square.rs; "the sums are divided by
    -- the number of pairs as f32"
    unfoldable pub mean_of : (Offset → Float) → Float
    unfolding pair_count sum_of add mul div of_int of_bits
    mean_of f = sum_of is_pair (midpoint f) (length sides) ⊘ of_int binary32 (pos pair_count)

    -- "or the finding that no pair exists"
    unfoldable pub prediction : (Offset → Float) → (Offset → Float) → Prediction
    unfolding pair_count mean_of
    prediction x y = cond (eqb pair_count 0) None (Some (record { x = mean_of x; y = mean_of y; n_axis_pairs = pair_count }))
