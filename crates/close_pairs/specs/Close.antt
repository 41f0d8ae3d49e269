-- "With a positive cell size, points closer than 0.2 cell sizes, compared as f32 squares, are both marked." Assumes nothing.
use Rattle.std.specs.Prelude.{Bool, not, ◌&&◌, ℕ, eqb, Float}
use Rattle.std.specs.Float.Ieee.{lt, add, sub, mul, of_bits}
use Rattle.folds.specs.Arith.{◌⊕◌, ◌⊖◌, ◌⊗◌, zero_f}
use Rattle.folds.specs.Below.{some}
use Rattle.float.specs.Constants.{duplicate_fraction}
use Rattle.view.specs.View.{View}

-- the square of 0.2 cell sizes
unfoldable pub limit_of : Float → Float
unfolding mul of_bits
limit_of cell = (duplicate_fraction ⊗ cell) ⊗ (duplicate_fraction ⊗ cell)

unfoldable pub square_of : Float → Float → Float
unfolding add mul
square_of dx dy = dx ⊗ dx ⊕ dy ⊗ dy

-- ranks j and k are closer than the root of the limit
unfoldable pub close : (ℕ → Float) → (ℕ → Float) → Float → ℕ → ℕ → Bool
unfolding square_of sub lt
close x y limit j k = lt (square_of (x j ⊖ x k) (y j ⊖ y k)) limit

-- another point is close to rank k
unfoldable pub close_mark : View → Float → ℕ → Bool
unfolding some close limit_of lt of_bits
close_mark w cell k = lt zero_f cell && some (λ j. not (eqb j k) && close w.x w.y (limit_of cell) j k) w.count
