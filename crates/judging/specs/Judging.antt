-- The judged sheet of a list of points in cell order with settings. Assumes nothing.
use Rattle.std.specs.Prelude.{List, ℕ, Float}
use Rattle.view.specs.View.{view_at}
use Rattle.cells.specs.Points.{Point, strengths_of}
use Rattle.cells.specs.Cell.{cells_at, cells_of}
use Rattle.grid.specs.Tables.{ranks_of}
use Rattle.grid.specs.Views.{view_of}
use Rattle.sheet_file.specs.declared.Settings.{Settings}
use Rattle.predict.specs.Fills.{fills_of}
use Rattle.predict.specs.Predict.{Prediction}
use Rattle.drop_set.specs.Filters.{sides_of, judged_of}
use Rattle.judged.specs.Judged.{Judged}

-- what the filters find of the points ps, which stand in cell order
unfoldable pub judged_for : Settings → List Point → Judged
unfolding view_of judged_of strengths_of
judged_for s ps = judged_of s (view_of ps) (cells_of ps) (strengths_of ps)

-- "For each dropped cell give the position `predict_grid_position` finds from the kept points": the fills of the points ps, by rank
unfoldable pub fills_for : Settings → List Point → List Prediction
unfolding view_of judged_for fills_of
fills_for s ps = fills_of (view_of ps) (sides_of s) (judged_for s ps).marks

-- ---- for the code: the same of arrays

abbrev pub judged_by : Settings → ℕ → List ℕ → List ℕ → List Float → List Float → List Float → Judged
judged_by s n keys idx xs ys strength = judged_of s (view_at n (ranks_of n keys idx) xs ys) (cells_at keys) strength
