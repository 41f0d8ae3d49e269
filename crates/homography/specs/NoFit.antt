-- "A zero diagonal, a zero determinant of the second scaling (inverted by cofactors) or |last entry| < 1e-12 means no fit": the three cases,
-- in the symbols of Fit.antt. Assumes nothing.
use Rattle.std.specs.Prelude.{Bool, ◌||◌, List, replicate, Float}
use Rattle.std.specs.Option.{unwrap_or}
use Rattle.std.specs.Float.Ieee.{lt, eq}
use Rattle.folds.specs.Arith.{zero_f}
use Rattle.float.specs.Constants.{negligible}
use Rattle.float.specs.Scalar.{abs_of}
use Rattle.linear.specs.Rows.{entry}
use Rattle.linear.specs.Linear.{zero_diagonal, eliminated, solution_of}
use Rattle.matrix.specs.Matrix.{determinant_of}
use Rattle.homography.specs.declared.PlanePoint.{PlanePoint}
use Rattle.homography.specs.Fit.{normalization_of, normalized_by, equations_of, right_side, matrix_of, denormalized_by}

-- the four points p are to go to the four points q
module _ (p q : List PlanePoint) where
  -- T x for each x of p, and T' x' for each x' of q
  abbrev sources : List PlanePoint
  sources = normalized_by (normalization_of p) p

  abbrev targets : List PlanePoint
  targets = normalized_by (normalization_of q) q

  -- "A zero diagonal", after the elimination of the equations for H̃
  abbrev pub has_zero_diagonal : Bool
  has_zero_diagonal = zero_diagonal (eliminated (equations_of sources targets) (right_side targets)).rows

  -- "a zero determinant of the second scaling", T'
  abbrev pub has_zero_determinant : Bool
  has_zero_determinant = eq (determinant_of (normalization_of q)) zero_f

  -- H before it is scaled, from the solution for H̃; where there is none, from zeros
  abbrev pub unscaled_map : List (List Float)
  unscaled_map = denormalized_by (matrix_of (unwrap_or (solution_of (equations_of sources targets) (right_side targets)) (replicate 8 zero_f))) (normalization_of p) (normalization_of q)

  -- "|last entry| < 1e-12", of H
  abbrev pub has_negligible_last : Bool
  has_negligible_last = lt (abs_of (entry unscaled_map 2 2)) negligible

  -- no map fits
  unfoldable pub is_unfit : Bool
  is_unfit = has_zero_diagonal || (has_zero_determinant || has_negligible_last)
