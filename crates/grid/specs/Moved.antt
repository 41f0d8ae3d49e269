-- Points moved by an offset. Assumes nothing.
use Rattle.std.specs.Prelude.{◌≡◌, ℤ}
use Rattle.cells.specs.Points.{Point}
use Rattle.cells.specs.Cell.{cell_of, InRange, moved}

-- "An offset is one whole number added to every u and one to every v, of either sign; index, position .. stay": q is p, moved, with its strength, and both are in range
pub record Moved (a b : ℤ) (p q : Point) : Type 0 where
  pub old : InRange p
  pub new : InRange q
  pub cell : cell_of q ≡ moved a b (cell_of p)
  pub index : q.index ≡ p.index
  pub x : q.x ≡ p.x
  pub y : q.y ≡ p.y
  pub strength : q.strength ≡ p.strength
