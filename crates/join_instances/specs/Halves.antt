-- Two points side by side as a file, the same in the other order, a file without points, moves, and what two are joined to. Assumes nothing.
use Rattle.std.specs.Prelude.{List, [], ◌∷◌, ℕ, ◌+◌, ◌^◌, pos}
use Rattle.folds.specs.Arith.{f32}
use Rattle.cells.specs.Points.{Point}
use Rattle.joined.specs.declared.moves.Move.{Move}
use Rattle.instances.specs.Files.{point, short_file}

-- (0,0) 10 at (0,0) and (1,0) 11 at (100,0)
abbrev pub first : Point
first = point 0 0 10 0 0

abbrev pub second : Point
second = point 1 0 11 0x42C8_0000 0

abbrev pub pair : List Point
pair = first ∷ second ∷ []

-- with cell size 100
abbrev pub half : List ℕ
half = short_file 0x42C8_0000 pair

abbrev pub turned_half : List ℕ
turned_half = short_file 0x42C8_0000 (second ∷ first ∷ [])

abbrev pub empty_half : List ℕ
empty_half = short_file 0x42C8_0000 []

-- this many columns to the right, and the pattern of as many pixels
abbrev pub by_columns : ℕ → ℕ → Move
by_columns du dx = record { du = pos du; dv = pos 0; dx = f32 dx; dy = f32 0 }

-- the pair joined with itself, one column and 100 pixels to the right: "right indices gain 2^31"
abbrev pub three : List Point
three = first ∷ second ∷ point 2 0 (11 + 2 ^ 31) 0x4348_0000 0 ∷ []
