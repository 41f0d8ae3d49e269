-- The bytes of small sheet files; the sheet of five points; settings with cell size 0; the marks of points, and the component count and the
-- rounds of an answer; a repeated index; a file cut short. Assumes nothing.
use Rattle.kept.specs.Answer.{Answer}
use Rattle.std.specs.Prelude.{List, [], ◌∷◌, ◌++◌, ℕ, length, take, None, Ok, Err}
use Rattle.folds.specs.Arith.{f32}
use Rattle.cells.specs.Points.{Point}
use Rattle.sheet_file.specs.Bytes.{little_endian}
use Rattle.sheet_file.specs.Grammar.{field}
use Rattle.sheet_file.specs.Refusals.{defaults_for}
use Rattle.sheet_file.specs.declared.Fraction.TheVariants.{Missing}
use Rattle.sheet_file.specs.declared.Settings.{Settings}
use Rattle.judging.specs.Judging.{judged_for}
use Rattle.stars.specs.Listed.{file}
use Rattle.written_file.specs.File.{points_bytes, long_settings, unweighed_file, weighed_file}

-- a point without tag 4: the patterns of its cell, its index, and the patterns of its position
abbrev pub point : ℕ → ℕ → ℕ → ℕ → ℕ → Point
point u v i x y = record { u = u; v = v; index = i; x = x; y = y; strength = 0 }

-- "Length 4 gives the cell size only": the file with the cell size of this pattern and these points, in this order
abbrev pub short_file : ℕ → List Point → List ℕ
short_file size ps = unweighed_file (little_endian size) ps

-- "Tag 1, length 21", with the line minimum 3 and these two switches
abbrev pub long_file : ℕ → ℕ → ℕ → List Point → List ℕ
long_file size wrong largest ps = unweighed_file (long_settings size 3 wrong largest) ps

-- "Tag 2, optional, length 17": with this minimum degree, both least cosines 0 and both largest ratios 4
abbrev pub gated_file : ℕ → ℕ → ℕ → ℕ → List Point → List ℕ
gated_file size wrong largest degree ps =
    field 1 (long_settings size 3 wrong largest)
    ++ (field 2 (degree ∷ (little_endian 0 ++ little_endian 0x4080_0000 ++ little_endian 0 ++ little_endian 0x4080_0000))
    ++ field 3 (points_bytes ps))

-- ---- files with tag 4

-- the patterns of 1 and 2
abbrev pub one : ℕ
one = 0x3F80_0000

abbrev pub two : ℕ
two = 0x4000_0000

-- the points, each with this strength
abbrev pub with_strength : ℕ → List Point → List Point
with_strength s [] = []
with_strength s (p ∷ ps) = record { u = p.u; v = p.v; index = p.index; x = p.x; y = p.y; strength = s } ∷ with_strength s ps

-- the file with the cell size and the fraction of these patterns, and these points with their strengths
abbrev pub short_weighed : ℕ → ℕ → List Point → List ℕ
short_weighed size fraction ps = weighed_file (little_endian size) fraction ps

-- ---- the sheet of five points: its points by their indices, and in cell order

abbrev pub ten : Point
ten = point 0 0 10 0 0

abbrev pub eleven : Point
eleven = point 1 0 11 0x42C8_0000 0

abbrev pub twelve : Point
twelve = point 0 1 12 0 0x42C8_0000

abbrev pub thirteen : Point
thirteen = point 1 1 13 0x42C8_0000 0x42C8_0000

abbrev pub fourteen : Point
fourteen = point 5 5 14 0x43FA_0000 0x43FA_0000

abbrev pub five : List Point
five = ten ∷ twelve ∷ eleven ∷ thirteen ∷ fourteen ∷ []

-- ---- settings and marks

-- the settings of a short file with cell size 0: no two points are too close, and no line flags a point that lies on it
abbrev pub zero_size : Settings
zero_size = defaults_for (f32 0) None Missing

-- "Byte 0: marks, bit 0 validate, 1 orientation, 2 wrong label, 3 component", and bit 4 leaf: of each of the points, in cell order
abbrev pub marks_of : Settings → List Point → List ℕ
marks_of s ps = take (length ps) (judged_for s ps).marks

-- the component count of an answer
abbrev pub answered_components : Answer → ℕ
answered_components (Err k) = 0
answered_components (Ok c) = c.components

-- and its rounds
abbrev pub answered_rounds : Answer → ℕ
answered_rounds (Err k) = 0
answered_rounds (Ok c) = c.rounds

-- ---- one index at two cells, and at one position

abbrev pub doubled : List Point
doubled = point 0 0 7 0 0 ∷ point 1 0 7 0 0 ∷ []

abbrev pub doubled_file : List ℕ
doubled_file = short_file 0 doubled

-- the first 109 bytes of the file of five points: refused with 1
abbrev pub cut_file : List ℕ
cut_file = take 109 file
