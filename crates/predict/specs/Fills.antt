-- The fills of a sheet: what is predicted for each dropped point from the kept ones, by rank. marks has 0 at each rank that is kept. Assumes
-- nothing.
use Rattle.std.specs.Prelude.{Bool, cond, List, ℕ, None, eqb, Float, get_or}
use Rattle.folds.specs.Column.{column}
use Rattle.offsets.specs.declared.Offset.{Offset}
use Rattle.view.specs.View.{View, max_points, rank_at}
use Rattle.patches.specs.Patches.{survives}
use Rattle.predict.specs.Predict.{Prediction, prediction}

-- "the point .. kept": there is one at offset o from rank k, and it has no mark
abbrev pub kept_at : View → List ℕ → ℕ → Offset → Bool
kept_at w marks k o = survives w.count marks (rank_at w k o)

-- the x, or the y, of the point at offset o from rank k
abbrev pub value_at : View → (ℕ → Float) → ℕ → Offset → Float
value_at w f k o = f (rank_at w k o)

module _ (w : View) (sides : List Offset) (marks : List ℕ) where
  -- "the position `predict_grid_position` finds from the kept points" for rank k's cell
  abbrev pub prediction_at : ℕ → Prediction
  prediction_at k = prediction sides (kept_at w marks k) (value_at w w.x k) (value_at w w.y k)

  -- "For each dropped cell": a kept point has none
  abbrev pub fill_at : ℕ → Prediction
  fill_at k = cond (eqb (get_or marks k 0) 0) None (prediction_at k)

  -- of all ranks
  unfoldable pub fills_of : List Prediction
  unfolding column prediction
  fills_of = column max_points None w.count fill_at
