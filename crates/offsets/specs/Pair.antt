-- An offset: what is added to a cell's u and v, two whole numbers of either sign. Assumes nothing.
use Rattle.std.specs.Prelude.{ℤ}

-- the pair (du, dv)
pub record Offset : Type 0 where
  pub du : ℤ
  pub dv : ℤ
