-- What the filters take for granted of the columns of an accepted sheet. Assumes nothing.
use Rattle.std.specs.Prelude.{List, ℕ, Float}
use Rattle.view.specs.View.{Finite}
use Rattle.grid.specs.Tables.{Keys}

-- the first n keys rise, and the positions and the strengths are finite
pub record Arrays (n : ℕ) (keys : List ℕ) (xs ys strength : List Float) : Type 0 where
  pub keyed : Keys keys n
  pub finite-x : Finite n xs
  pub finite-y : Finite n ys
  pub finite-strength : Finite n strength
