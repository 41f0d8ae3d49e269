-- Points in cell order. Assumes nothing.
use Rattle.std.specs.Prelude.{◌≡◌, true, List, ℕ, ◌≤◌, ◌<◌, length, get_or}
use Rattle.view.specs.View.{max_points}
use Rattle.cells.specs.Points.{Point, nowhere}
use Rattle.cells.specs.Cell.{cell_of, InRange, before}

-- the points of an accepted sheet, "in cell order, by u, then v": all in range, and no two in one cell
pub record CellOrder (ps : List Point) : Type 0 where
  pub few : length ps ≤ max_points
  pub inside : (k : ℕ) → k < length ps → InRange (get_or ps k nowhere)
  pub rising : (i j : ℕ) → i < j → j < length ps → before (cell_of (get_or ps i nowhere)) (cell_of (get_or ps j nowhere)) ≡ true
