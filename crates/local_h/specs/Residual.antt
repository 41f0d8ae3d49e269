-- The residual of a corner: how far the map fitted to its base takes its cell from where it is seen. Assumes nothing.
use Rattle.std.specs.Prelude.{Bool, true, cond, List, [], ◌∷◌, ℕ, ℤ, Float, Option, Some, None}
use Rattle.std.specs.Float.{binary32}
use Rattle.std.specs.Float.Ieee.{of_int}
use Rattle.folds.specs.Arith.{◌⊖◌}
use Rattle.folds.specs.Below.{first, first_in}
use Rattle.float.specs.Remainder.{length_of, remainder_of}
pub use Rattle.float.specs.declared.Distance.{Distance}
use Rattle.homography.specs.declared.PlanePoint.{PlanePoint}
use Rattle.homography.specs.declared.Homography.{Homography}
use Rattle.homography.specs.Fit.{homography_from4pt, applied_to, fit-computes}
use Rattle.cells.specs.Cell.{Cell}
use Rattle.view.specs.View.{View}
use Rattle.local_h.specs.Base.{member_at, on_line, is_other, is_serving, places_of, has_four}

-- u or v as f32
abbrev pub coordinate : ℤ → Float
coordinate z = of_int binary32 z

-- a cell as a point
abbrev pub cell_point : Cell → PlanePoint
cell_point c = record { x = coordinate c.u; y = coordinate c.v }

-- how far the map h takes p from q
abbrev pub distance_by : Homography → PlanePoint → PlanePoint → Distance
distance_by h p q = length_of ((applied_to h p).x ⊖ q.x) ((applied_to h p).y ⊖ q.y)

-- "A residual is a number or the finding that no fit exists": how far the map takes p from q
unfoldable pub residual_by : Option Homography → PlanePoint → PlanePoint → Option Distance
residual_by (Some h) p q = Some (distance_by h p q)
residual_by None p q = None

-- where rank k is seen. "One index stands at positions with different bits" is refused, so this is its index's position.
abbrev pub seen_at : View → ℕ → PlanePoint
seen_at w k = record { x = w.x k; y = w.y k }

-- the cells of the ranks i, j, l and m as points
abbrev pub four_cells : (ℕ → Cell) → ℕ → ℕ → ℕ → ℕ → List PlanePoint
four_cells cell i j l m = cell_point (cell i) ∷ cell_point (cell j) ∷ cell_point (cell l) ∷ cell_point (cell m) ∷ []

-- where these ranks are seen
abbrev pub four_seen : View → ℕ → ℕ → ℕ → ℕ → List PlanePoint
four_seen w i j l m = seen_at w i ∷ seen_at w j ∷ seen_at w l ∷ seen_at w m ∷ []

module _ (w : View) (cell : ℕ → Cell) where
  -- the residual of rank k by the ranks i, j, l and m
  unfoldable pub residual_from : ℕ → ℕ → ℕ → ℕ → ℕ → Option Distance
  residual_from k i j l m = residual_by (homography_from4pt (four_cells cell i j l m) (four_seen w i j l m)) (cell_point (cell k)) (seen_at w k)

  -- "With fewer than four there is no fit."
  unfoldable pub residual_at : ℕ → Option Distance
  residual_at k =
      let b = places_of w k in
      cond (has_four w k) (residual_from k (member_at w k b.a) (member_at w k b.b) (member_at w k b.c) (member_at w k b.d)) None

-- This name on an `unfolding` line opens every definition that a residual computes by.
unfoldable pub residuals-compute : Bool
unfolding fit-computes remainder_of of_int first first_in on_line is_other is_serving places_of residual_by residual_from residual_at
residuals-compute = true
