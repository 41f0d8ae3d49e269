-- Sheets with tag 4 and fraction 2, all of whose points are weak: one point; an index at both ends of a row of three; three points of which two
-- are too close. Assumes nothing.
use Rattle.std.specs.Prelude.{List, [], ◌∷◌, ℕ, None}
use Rattle.folds.specs.Arith.{f32}
use Rattle.cells.specs.Points.{Point}
use Rattle.sheet_file.specs.Refusals.{defaults_for}
use Rattle.sheet_file.specs.declared.Fraction.TheVariants.{Given}
use Rattle.sheet_file.specs.declared.Settings.{Settings}
use Rattle.instances.specs.Files.{one, two, short_weighed}

-- a point with strength 1: its cell on the row v = 0, its index, and the pattern of x where y is 0
abbrev weak_point : ℕ → ℕ → ℕ → Point
weak_point u i x = record { u = u; v = 0; index = i; x = x; y = 0; strength = one }

-- the file with the cell size of this pattern, and its settings
abbrev pub weak_file : ℕ → List Point → List ℕ
weak_file size ps = short_weighed size two ps

abbrev pub weak_settings : ℕ → Settings
weak_settings size = defaults_for (f32 size) None (Given (f32 two))

abbrev pub seven : ℕ
seven = 0x40E0_0000

abbrev pub hundred : ℕ
hundred = 0x42C8_0000

abbrev pub single : List Point
single = weak_point 0 0 0 ∷ []

-- index 5 at (0, 0) and (2, 0), index 6 between them, all at one position
abbrev pub two_ends : List Point
two_ends = weak_point 0 5 0 ∷ weak_point 1 6 0 ∷ weak_point 2 5 0 ∷ []

-- (0, 0) and (1, 0) 19 pixels apart, and (9, 0)
abbrev pub two_close : List Point
two_close = weak_point 0 0 0 ∷ weak_point 1 1 0x4198_0000 ∷ weak_point 9 2 0x4461_0000 ∷ []
