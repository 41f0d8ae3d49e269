-- What the methods of the kept points give. Assumes nothing.
use Rattle.std.specs.Prelude.{cond, ℕ, Option, None, Some}
use Rattle.offsets.specs.declared.Offset.{Offset}
use Rattle.view.specs.View.{View, rank_at}
use Rattle.view.specs.Seen.{seen_in}
use Rattle.predict.specs.Predict.{Prediction}
use Rattle.predict.specs.Fills.{kept_at, prediction_at, fill_at}
use Rattle.predict.specs.Sums.{sums_with}
use Rattle.predict.specs.declared.kept.Kept.{Kept}
use Rattle.predict.specs.declared.sums.Sums.{Sums}

abbrev pub view_of : Kept → View
view_of p = seen_in p.points

-- the rank at offset o from rank k, if it is kept
abbrev pub kept_rank : Kept → ℕ → Offset → Option ℕ
kept_rank p k o = cond (kept_at (view_of p) p.marks.now k o) (Some (rank_at (view_of p) k o)) None

abbrev pub sums_in : Kept → ℕ → Offset → Sums → Sums
sums_in p k o a = sums_with (view_of p) p.marks.now k o a

abbrev pub prediction_in : Kept → ℕ → Prediction
prediction_in p k = prediction_at (view_of p) p.sides.now p.marks.now k

abbrev pub fill_in : Kept → ℕ → Prediction
fill_in p k = fill_at (view_of p) p.sides.now p.marks.now k
