-- An accepted sheet, whatever it was read or made of: its settings, and its points in cell order. Assumes nothing.
use Rattle.std.specs.Prelude.{◌≡◌, List, ℕ, ◌^◌, ◌<◌}
use Rattle.folds.specs.Lists.{All}
use Rattle.cells.specs.Points.{Point}
use Rattle.sheet_file.specs.declared.Settings.{Settings}
use Rattle.ruling.specs.Ruling.{accepted, ruling_in}

-- "each point is u i32, v i32, index u32, x f32, y f32"; "one strength f32 per point": its words are patterns of 32 bits
pub record Words (p : Point) : Type 0 where
  pub u : p.u < 2 ^ 32
  pub v : p.v < 2 ^ 32
  pub index : p.index < 2 ^ 32
  pub x : p.x < 2 ^ 32
  pub y : p.y < 2 ^ 32
  pub strength : p.strength < 2 ^ 32

-- "A sheet is accepted if it gets no refusal number": some list of points does not, with the settings s and some buffer, and in cell order
-- it is ps. An accepted file is one use of it (`of-file`).
pub record AcceptedSheet (s : Settings) (ps : List Point) : Type 0 where
  pub room : ℕ
  pub points : List Point
  pub words : All Words points
  pub ruled-so : ruling_in room s points ≡ accepted s ps
