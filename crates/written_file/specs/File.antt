-- The bytes of a sheet file: its fields, one after the other. Assumes nothing.
use Rattle.std.specs.Prelude.{List, [], ◌∷◌, ◌++◌, ℕ, ◌/◌, ◌%◌}
use Rattle.cells.specs.Points.{Point}
use Rattle.sheet_file.specs.Bytes.{little_endian}
use Rattle.sheet_file.specs.Grammar.{field}

-- "each point is u i32, v i32, index u32, x f32, y f32"
abbrev pub point_bytes : Point → List ℕ
point_bytes p = little_endian p.u ++ little_endian p.v ++ little_endian p.index ++ little_endian p.x ++ little_endian p.y

abbrev pub points_bytes : List Point → List ℕ
points_bytes [] = []
points_bytes (p ∷ ps) = point_bytes p ++ points_bytes ps

-- "one strength f32 per point, in the points' order"
abbrev pub strength_bytes : List Point → List ℕ
strength_bytes [] = []
strength_bytes (p ∷ ps) = little_endian p.strength ++ strength_bytes ps

-- "Tag 4, optional, after tag 3, carries a fraction f32 and one strength f32 per point": with the fraction of this pattern
abbrev pub weights : ℕ → List Point → List ℕ
weights fraction ps = field 4 (little_endian fraction ++ strength_bytes ps)

-- "all 21 bytes" of tag 1: the cell size of this pattern, line tolerance 0.15, this line minimum, local tolerance 0.20, the step flag off, its
-- threshold 0, and these two switches
abbrev pub long_settings : ℕ → ℕ → ℕ → ℕ → List ℕ
long_settings size minimum wrong largest =
    little_endian size
    ++ (little_endian 0x3E19_999A
    ++ (minimum % 256 ∷ minimum / 256 % 256 ∷ (little_endian 0x3E4C_CCCD ++ (0 ∷ (little_endian 0 ++ (wrong ∷ largest ∷ []))))))

-- "now spell out all 21 bytes": what the cell size alone stands for, with this line minimum
abbrev pub spelled_out : ℕ → ℕ → List ℕ
spelled_out size minimum = long_settings size minimum 1 1

-- the file with these data of tag 1, no tag 2, and these points, in this order
abbrev pub unweighed_file : List ℕ → List Point → List ℕ
unweighed_file settings ps = field 1 settings ++ field 3 (points_bytes ps)

-- and with tag 4
abbrev pub weighed_file : List ℕ → ℕ → List Point → List ℕ
weighed_file settings fraction ps = field 1 settings ++ (field 3 (points_bytes ps) ++ weights fraction ps)
