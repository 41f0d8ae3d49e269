-- Whole numbers as f32. Assumes nothing.
use Rattle.std.specs.Prelude.{false, ℕ, Float}
use Rattle.std.specs.Float.{binary32}
use Rattle.std.specs.Float.Ieee.{round}

-- n as f32, rounded once; up to 2 ^ 24 it is n itself (proofs/Whole.antt)
abbrev pub as_float : ℕ → Float
as_float n = round binary32 false n 1
