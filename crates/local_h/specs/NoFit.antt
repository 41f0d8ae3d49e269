-- When a corner has no residual. "With fewer than four there is no fit. .. A zero diagonal, a zero determinant of the second scaling .. or
-- |last entry| < 1e-12 means no fit. .. that finding is given in those cases only." Assumes nothing.
use Rattle.std.specs.Prelude.{Bool, not, ◌||◌, ℕ}
use Rattle.homography.specs.NoFit.{is_unfit}
use Rattle.cells.specs.Cell.{Cell}
use Rattle.view.specs.View.{View}
use Rattle.local_h.specs.Base.{member_at, places_of, has_four}
use Rattle.local_h.specs.Residual.{four_cells, four_seen}

module _ (w : View) (cell : ℕ → Cell) where
  -- the base of rank k has fewer than four, or its four are unfit
  unfoldable pub is_unfit_at : ℕ → Bool
  is_unfit_at k =
      let b = places_of w k in
      let i = member_at w k b.a in
      let j = member_at w k b.b in
      let l = member_at w k b.c in
      let m = member_at w k b.d in
      not (has_four w k) || is_unfit (four_cells cell i j l m) (four_seen w i j l m)
