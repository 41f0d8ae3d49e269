-- A prediction has no more pairs than there are offsets. Assumes nothing.
use mathlib.Core.Path.{◌≡◌, refl, sym, ap, ◌∙◌}
use mathlib.Core.Bool.{Bool, true, false, cond}
use mathlib.Core.List.{List}
use Prim.{Dec, yes, no}
use Prim.Native.Nat.{ℕ, ◌≤◌, ◌<◌}
use native.Mathlib.Decide.{dec_lt}
use native.Mathlib.Omega.{arith}
use lib.Dec.{eqb}
use lib.Ieee.{Float}
use lib.ListN.{length, get_or}
use Rattle.folds.proofs.Below.{tally-le}
use Rattle.folds.proofs.Column.{column-at, column-over}
use Rattle.offsets.specs.declared.Offset.{Offset}
use Rattle.view.specs.View.{View, max_points}
use Rattle.predict.specs.Predict.{is_pair, pair_count, prediction}
use Rattle.predict.specs.Fills.{kept_at, value_at, prediction_at, fill_at, fills_of}
use Rattle.predict.specs.declared.PredictedPosition.{PredictedPosition}
use Rattle.predict.specs.Predict.{Prediction}
use Rattle.std.specs.Prelude.{None, Some}

-- the pairs that a prediction names, 0 where there is none
abbrev pub pairs_in : Prediction → ℕ
pairs_in None = 0
pairs_in (Some p) = p.n_axis_pairs

pub prediction-few : (sides : List Offset) (there : Offset → Bool) (x y : Offset → Float) → pairs_in (prediction sides there x y) ≤ length sides
unfolding prediction pair_count
prediction-few sides there x y = go (eqb (pair_count sides there) 0) refl
  where
    go : (b : Bool) → eqb (pair_count sides there) 0 ≡ b → pairs_in (prediction sides there x y) ≤ length sides
    go true e = rw e (omega arith)
    go false e = rw e (tally-le (is_pair sides there) (length sides))

pub fills-few : (w : View) (sides : List Offset) (marks : List ℕ) (k : ℕ) (p : PredictedPosition) → get_or (fills_of w sides marks) k None ≡ Some p → p.n_axis_pairs ≤ length sides
unfolding fills_of
fills-few w sides marks k p e = go (dec_lt k w.count)
  where
    of : (b : Bool) → pairs_in (cond b None (prediction_at w sides marks k)) ≤ length sides
    of true = omega arith
    of false = prediction-few sides (kept_at w marks k) (value_at w w.x k) (value_at w w.y k)

    go : Dec (k < w.count) → p.n_axis_pairs ≤ length sides
    go (yes h) = omega (arith, ap pairs_in (sym (column-at max_points None w.count (fill_at w sides marks) k h) ∙ e), of (eqb (get_or marks k 0) 0))
    go (no h) = omega (arith, ap pairs_in (sym (column-over max_points None w.count (fill_at w sides marks) k (omega (arith, h))) ∙ e))
