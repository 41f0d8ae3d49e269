-- The sums over the first offsets of a list: the contracts of the inner functions. Assumes nothing.
use Rattle.std.specs.Prelude.{Bool, cond, ◌&&◌, List, ℕ, ◌+◌, None, Some, eqb, pos, Float}
use Rattle.std.specs.Float.{binary32}
use Rattle.std.specs.Float.Ieee.{of_int}
use Rattle.folds.specs.Arith.{◌⊕◌, ◌⊗◌, ◌⊘◌}
use Rattle.folds.specs.Below.{tally, sum_of}
use Rattle.float.specs.Constants.{half}
use Rattle.offsets.specs.declared.Offset.{Offset}
use Rattle.view.specs.View.{View}
use Rattle.predict.specs.Predict.{Prediction, opposite, is_forward, midpoint, is_pair}
use Rattle.predict.specs.Fills.{kept_at, value_at}
use Rattle.predict.specs.declared.sums.Sums.{Sums}

module _ (w : View) (marks : List ℕ) (k : ℕ) where
  -- the points at offset o and at its opposite are a pair
  abbrev pub pair_at : Offset → Bool
  pair_at o = is_forward o && (kept_at w marks k o && kept_at w marks k (opposite o))

  -- half way between their values
  abbrev pub midpoint_at : (ℕ → Float) → Offset → Float
  midpoint_at f o = half ⊗ (value_at w f k o ⊕ value_at w f k (opposite o))

  -- one offset more
  abbrev pub sums_with : Offset → Sums → Sums
  sums_with o a = cond (pair_at o) (record { x = a.x ⊕ midpoint_at w.x o; y = a.y ⊕ midpoint_at w.y o; pairs = a.pairs + 1 }) a

  -- of the first i offsets of a list
  abbrev pub sums_to : List Offset → ℕ → Sums
  sums_to sides i =
      record {
        x = sum_of (is_pair sides (kept_at w marks k)) (midpoint sides (value_at w w.x k)) i;
        y = sum_of (is_pair sides (kept_at w marks k)) (midpoint sides (value_at w w.y k)) i;
        pairs = tally (is_pair sides (kept_at w marks k)) i;
      }

-- the sums divided by the number of pairs
abbrev pub mean_by : Sums → Prediction
mean_by a = cond (eqb a.pairs 0) None (Some (record { x = a.x ⊘ of_int binary32 (pos a.pairs); y = a.y ⊘ of_int binary32 (pos a.pairs); n_axis_pairs = a.pairs }))
