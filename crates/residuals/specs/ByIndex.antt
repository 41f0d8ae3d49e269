-- What a rank, and its index, has of residuals. Assumes nothing.
use Rattle.std.specs.Prelude.{Bool, false, cond, ◌&&◌, List, ℕ, ltb, Float, Option, Some, None, is_some}
use Rattle.std.specs.Float.Ieee.{lt}
use Rattle.folds.specs.Arith.{◌⊗◌}
use Rattle.folds.specs.Below.{last}
use Rattle.folds.specs.Column.{column}
use Rattle.folds.specs.Marked.{bit}
use Rattle.float.specs.Constants.{two}
use Rattle.view.specs.View.{View, max_points, alike, index_has}
use Rattle.cells.specs.Cell.{Cell}
use Rattle.local_h.specs.Residual.{residual_at}
use Rattle.float.specs.declared.Distance.{Distance}
use Rattle.residuals.specs.declared.Flags.{Flags}

-- "residual over tolerance", where the limit is the tolerance times the scale of the index
abbrev pub exceeds : Float → Option Distance → Bool
exceeds limit (Some d) = lt limit d.value
exceeds limit None = false

-- "residual over twice the tolerance", which the source asks only of a residual over the tolerance
abbrev pub is_high : Float → Option Distance → Bool
is_high limit r = exceeds limit r && exceeds (two ⊗ limit) r

-- r has the residual of each rank
module _ (w : View) (r : ℕ → Option Distance) where
  -- the last rank with rank k's index that has a residual, or the count
  unfoldable pub last_fit : ℕ → ℕ
  last_fit k = last (λ (j : ℕ). is_some (r j) && alike w j k) w.count w.count

  -- "a residual comes from the last cell, in the order of the rows, having one"
  unfoldable pub index_residual : ℕ → Option Distance
  index_residual k = cond (ltb (last_fit k) w.count) (r (last_fit k)) None

-- the residual of each rank's index
unfoldable pub residuals_of : View → (ℕ → Cell) → List (Option Distance)
residuals_of w cell = column max_points None w.count (index_residual w (residual_at w cell))

module _ (r : ℕ → Option Distance) (scale : ℕ → Float) (tolerance : Float) where
  -- "residual over tolerance", of rank k
  abbrev pub over_at : ℕ → Bool
  over_at k = exceeds (tolerance ⊗ scale k) (r k)

  -- "residual over twice the tolerance", of rank k
  abbrev pub high_at : ℕ → Bool
  high_at k = is_high (tolerance ⊗ scale k) (r k)

  -- the flags of each of n ranks
  unfoldable pub rank_flags : ℕ → Flags
  rank_flags n = record { over = column max_points 0 n (λ (k : ℕ). bit (over_at k)); high = column max_points 0 n (λ (k : ℕ). bit (high_at k)) }

  -- those of the index of each rank: "a flag from any cell stays"
  unfoldable pub index_flags : View → Flags
  index_flags w =
      record {
        over = column max_points 0 w.count (λ (k : ℕ). bit (index_has w over_at k));
        high = column max_points 0 w.count (λ (k : ℕ). bit (index_has w high_at k));
      }
