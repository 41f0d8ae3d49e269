-- The map that takes four points x to four others x', by the normalised construction of Hartley and Zisserman (Multiple View Geometry, algorithm
-- 4.2): similarities T and T' centre and scale the two fours; H̃ takes each T x to T' x'; and H = T'⁻¹ H̃ T, scaled to a last entry of 1.
-- Assumes nothing.
use Rattle.std.specs.Prelude.{ℕ, Bool, true, cond, List, [], ◌∷◌, get_or, Float, Option, Some, None}
use Rattle.std.specs.Option.{option_and_then}
use Rattle.std.specs.Float.{nan}
use Rattle.std.specs.Float.Ieee.{neg, lt, eq}
use Rattle.folds.specs.Arith.{◌⊕◌, ◌⊖◌, ◌⊗◌, ◌⊘◌, zero_f}
use Rattle.float.specs.Constants.{one, four, negligible, root_two}
use Rattle.float.specs.Root.{root_of}
use Rattle.float.specs.Scalar.{norm_of, abs_of}
use Rattle.linear.specs.Rows.{entry_at, entry}
use Rattle.matrix.specs.Matrix.{matrix, row_times, determinant_of, inverse_of, product_of}
use Rattle.linear.specs.Linear.{solution_of, solution-computes}
use Rattle.homography.specs.declared.PlanePoint.{PlanePoint}
use Rattle.homography.specs.declared.Homography.{Homography}

-- what a list of points has past its end
abbrev pub no_plane_point : PlanePoint
no_plane_point = record { x = nan; y = nan }

abbrev pub plane_point_at : List PlanePoint → ℕ → PlanePoint
plane_point_at p k = get_or p k no_plane_point

-- ---- "Each four is centred and scaled (√2 over mean distance, scale 1 if that is at most 1e-12)."

-- from 0 on and left to right
abbrev pub mean_of_four : Float → Float → Float → Float → Float
mean_of_four a b c d = (zero_f ⊕ a ⊕ b ⊕ c ⊕ d) ⊘ four

-- the centre of the four points p, which T takes to 0
abbrev mean_x : List PlanePoint → Float
mean_x p = mean_of_four (plane_point_at p 0).x (plane_point_at p 1).x (plane_point_at p 2).x (plane_point_at p 3).x

abbrev mean_y : List PlanePoint → Float
mean_y p = mean_of_four (plane_point_at p 0).y (plane_point_at p 1).y (plane_point_at p 2).y (plane_point_at p 3).y

-- how far p is from (x, y)
abbrev distance_from : PlanePoint → Float → Float → Float
distance_from p x y = norm_of (p.x ⊖ x) (p.y ⊖ y)

-- the mean distance of the four points p from their centre (x, y), which T takes to √2
unfoldable pub mean_distance : List PlanePoint → Float → Float → Float
mean_distance p x y =
    mean_of_four
    (distance_from (plane_point_at p 0) x y)
    (distance_from (plane_point_at p 1) x y)
    (distance_from (plane_point_at p 2) x y)
    (distance_from (plane_point_at p 3) x y)

-- the scale of T, from the mean distance
unfoldable pub normalizing_scale : Float → Float
normalizing_scale d = cond (lt negligible d) (root_two ⊘ d) one

-- the similarity T with the scale s and the centre (x, y)
abbrev scaling_by : Float → Float → Float → List (List Float)
scaling_by s x y = matrix s zero_f (neg s ⊗ x) zero_f s (neg s ⊗ y) zero_f zero_f one

-- T of the four points p; T' of the four that they go to
unfoldable pub normalization_of : List PlanePoint → List (List Float)
normalization_of p =
    let x = mean_x p in
    let y = mean_y p in
    scaling_by (normalizing_scale (mean_distance p x y)) x y

-- T x, where t is T and p is x
abbrev pub moved_by : List (List Float) → PlanePoint → PlanePoint
moved_by t p = record { x = row_times t 0 p.x p.y; y = row_times t 1 p.x p.y }

-- T x for each x of the four points p
unfoldable pub normalized_by : List (List Float) → List PlanePoint → List PlanePoint
normalized_by t p = moved_by t (plane_point_at p 0) ∷ moved_by t (plane_point_at p 1) ∷ moved_by t (plane_point_at p 2) ∷ moved_by t (plane_point_at p 3) ∷ []

-- ---- "The source's eight equations", two for each point (x, y) and the point (u, v) that it goes to: those of T' x' = H̃ T x

-- the first of the two, where p is T x and q is T' x': the entries of H̃ are unknown 0 to 7, row by row, with a last entry of 1
abbrev pub equation_u : PlanePoint → PlanePoint → List Float
equation_u p q = p.x ∷ p.y ∷ one ∷ zero_f ∷ zero_f ∷ zero_f ∷ (neg q.x ⊗ p.x) ∷ (neg q.x ⊗ p.y) ∷ []

-- the second
abbrev pub equation_v : PlanePoint → PlanePoint → List Float
equation_v p q = zero_f ∷ zero_f ∷ zero_f ∷ p.x ∷ p.y ∷ one ∷ (neg q.y ⊗ p.x) ∷ (neg q.y ⊗ p.y) ∷ []

-- the eight for H̃, where p has the four T x and q the four T' x'
unfoldable pub equations_of : List PlanePoint → List PlanePoint → List (List Float)
equations_of p q =
    equation_u (plane_point_at p 0) (plane_point_at q 0) ∷ equation_v (plane_point_at p 0) (plane_point_at q 0)
    ∷ equation_u (plane_point_at p 1) (plane_point_at q 1) ∷ equation_v (plane_point_at p 1) (plane_point_at q 1)
    ∷ equation_u (plane_point_at p 2) (plane_point_at q 2) ∷ equation_v (plane_point_at p 2) (plane_point_at q 2)
    ∷ equation_u (plane_point_at p 3) (plane_point_at q 3) ∷ equation_v (plane_point_at p 3) (plane_point_at q 3) ∷ []

-- their right side
abbrev pub right_side : List PlanePoint → List Float
right_side q =
    (plane_point_at q 0).x ∷ (plane_point_at q 0).y ∷ (plane_point_at q 1).x ∷ (plane_point_at q 1).y ∷ (plane_point_at q 2).x ∷ (plane_point_at q 2).y ∷ (plane_point_at q 3).x ∷ (plane_point_at q 3).y ∷ []

-- H̃ from its eight entries
abbrev pub matrix_of : List Float → List (List Float)
matrix_of x = matrix (entry_at x 0) (entry_at x 1) (entry_at x 2) (entry_at x 3) (entry_at x 4) (entry_at x 5) (entry_at x 6) (entry_at x 7) one

-- ---- the map

-- H scaled to a last entry of 1, where m is H and s its last entry: each entry over s
abbrev pub over_last : List (List Float) → Float → Homography
over_last m s =
    record {
      h00 = entry m 0 0 ⊘ s;
      h01 = entry m 0 1 ⊘ s;
      h02 = entry m 0 2 ⊘ s;
      h10 = entry m 1 0 ⊘ s;
      h11 = entry m 1 1 ⊘ s;
      h12 = entry m 1 2 ⊘ s;
      h20 = entry m 2 0 ⊘ s;
      h21 = entry m 2 1 ⊘ s;
      h22 = entry m 2 2 ⊘ s;
    }

-- the scaled H, where m is H: ".. or |last entry| < 1e-12 means no fit."
unfoldable pub normalized_map : List (List Float) → Option Homography
normalized_map m = cond (lt (abs_of (entry m 2 2)) negligible) None (Some (over_last m (entry m 2 2)))

-- H = T'⁻¹ H̃ T, where m is H̃, s is T and d is T'
abbrev pub denormalized_by : List (List Float) → List (List Float) → List (List Float) → List (List Float)
denormalized_by m s d = product_of (product_of (inverse_of d (determinant_of d)) m) s

-- the scaled H from H̃: "a zero determinant of the second scaling (inverted by cofactors) .. means no fit"
unfoldable pub denormalized_map : List (List Float) → List (List Float) → List (List Float) → Option Homography
denormalized_map m s d = cond (eq (determinant_of d) zero_f) None (normalized_map (denormalized_by m s d))

-- the scaled H from the solution for the entries of H̃: "A zero diagonal .. means no fit."
unfoldable pub map_by : Option (List Float) → List (List Float) → List (List Float) → Option Homography
map_by solution s d = option_and_then (λ x. denormalized_map (matrix_of x) s d) solution

-- the scaled H, which takes the four points p to the four points q
unfoldable pub homography_from4pt : List PlanePoint → List PlanePoint → Option Homography
homography_from4pt p q =
    let s = normalization_of p in
    let d = normalization_of q in
    let moved = normalized_by d q in
    map_by (solution_of (equations_of (normalized_by s p) moved) (right_side moved)) s d

-- H x, where h is H and p is x
unfoldable pub applied_to : Homography → PlanePoint → PlanePoint
applied_to h p =
    let w = h.h20 ⊗ p.x ⊕ h.h21 ⊗ p.y ⊕ h.h22 ⊗ one in
    record { x = (h.h00 ⊗ p.x ⊕ h.h01 ⊗ p.y ⊕ h.h02 ⊗ one) ⊘ w; y = (h.h10 ⊗ p.x ⊕ h.h11 ⊗ p.y ⊕ h.h12 ⊗ one) ⊘ w }

-- This name on an `unfolding` line opens every definition that a fit computes by.
unfoldable pub fit-computes : Bool
unfolding solution-computes norm_of root_of product_of determinant_of inverse_of mean_distance normalizing_scale normalization_of normalized_by equations_of normalized_map denormalized_map map_by homography_from4pt applied_to
fit-computes = true
