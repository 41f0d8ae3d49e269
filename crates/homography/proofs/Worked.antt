-- Fits by the definitions, checked by computing: each case in which there is none, and a fit that takes a point to NaN. Assumes nothing.
use mathlib.Core.Path.{◌≡◌, refl}
use mathlib.Core.Bool.{Bool, true, false, ◌&&◌}
use mathlib.Core.List.{List, [], ◌∷◌}
use Prim.Native.Nat.{ℕ}
use lib.IntN.{pos}
use lib.Ieee.{Float, nan, binary32, of_int}
use lib.Ieee.Scale.{finite}
use Rattle.std.proofs.Common.{Option, Some, None}
use Rattle.std.specs.Option.{option_map}
use Rattle.folds.specs.Arith.{zero_f, f32}
use Rattle.linear.specs.Linear.{solution_of}
use Rattle.homography.specs.declared.PlanePoint.{PlanePoint}
use Rattle.homography.specs.declared.Homography.{Homography}
use Rattle.homography.specs.Fit.{normalization_of, normalized_by, equations_of, right_side, homography_from4pt, applied_to, fit-computes}
use Rattle.homography.specs.NoFit.{has_zero_diagonal, has_zero_determinant, has_negligible_last}

abbrev point : ℕ → ℕ → PlanePoint
point x y = record { x = of_int binary32 (pos x); y = of_int binary32 (pos y) }

-- ---- no fit

abbrev square : List PlanePoint
square = point 0 0 ∷ point 1 0 ∷ point 0 1 ∷ point 1 1 ∷ []

-- four points at one place: a zero diagonal
abbrev at_one : List PlanePoint
at_one = point 5 5 ∷ point 5 5 ∷ point 5 5 ∷ point 5 5 ∷ []

pub one-diagonal : (has_zero_diagonal square at_one ≡ true) × (has_zero_determinant square at_one ≡ false) × (has_negligible_last square at_one ≡ false)
unfolding fit-computes of_int
one-diagonal = (refl, refl, refl)

-- a side of 2^100, whose square is no f32: a zero determinant of the second scaling
abbrev far : Float
far = f32 0x7180_0000

abbrev far_apart : List PlanePoint
far_apart = record { x = zero_f; y = zero_f } ∷ record { x = far; y = zero_f } ∷ record { x = zero_f; y = far } ∷ record { x = far; y = far } ∷ []

pub far-determinant : has_zero_determinant square far_apart ≡ true
unfolding fit-computes of_int
far-determinant = refl

-- the map takes the line of x + y = 0 to infinity, and with it (0, 0): a last entry of 0
abbrev from : List PlanePoint
from = point 3 0 ∷ point 3 1 ∷ point 2 1 ∷ point 2 4 ∷ []

abbrev to : List PlanePoint
to = point 0 0 ∷ point 0 1 ∷ point 2 0 ∷ point 1 2 ∷ []

pub last-zero : (has_zero_diagonal from to ≡ false) × (has_zero_determinant from to ≡ false) × (has_negligible_last from to ≡ true)
unfolding fit-computes of_int
last-zero = (refl, refl, refl)

-- ---- A map whose equations have a solution with every entry finite may still take a point to NaN. That is a number, and not the finding that
-- no fit exists.

abbrev p : List PlanePoint
p = point 7 16 ∷ point 11 16 ∷ point 11 18 ∷ point 8 19 ∷ []

abbrev q : List PlanePoint
q = point 2 3 ∷ point 1 0 ∷ point 1 3 ∷ point 1 0 ∷ []

abbrev all_finite : List Float → Bool
all_finite [] = true
all_finite (x ∷ l) = finite x && all_finite l

abbrev solution : Option (List Float)
solution = solution_of (equations_of (normalized_by (normalization_of p) p) (normalized_by (normalization_of q) q)) (right_side (normalized_by (normalization_of q) q))

pub solution-finite : option_map all_finite solution ≡ Some true
unfolding fit-computes of_int
solution-finite = refl

-- the x of where a map takes the point (9, 17)
abbrev taken_to : Option Homography → Float
taken_to (Some h) = (applied_to h (point 9 17)).x
taken_to None = zero_f

pub taken-nan : taken_to (homography_from4pt p q) ≡ nan
unfolding fit-computes of_int
taken-nan = refl
