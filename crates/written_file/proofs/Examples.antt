-- The bytes of a file with one point, and of files made of another; a number that does not fit its four bytes, and a strength without tag 4.
-- Assumes nothing.
use Rattle.std.specs.Prelude.{None}
use mathlib.Core.Path.{◌≡◌, refl, ap}
use mathlib.Core.Bool.{Bool, true}
use mathlib.Core.Logic.{inr}
use mathlib.Core.List.{List, [], ◌∷◌, ◌++◌}
use Prim.Native.Nat.{ℕ, ◌^◌}
use native.Mathlib.Omega.{arith}
use lib.ListN.{get_or}
use lib.Ieee.{of_bits}
use Rattle.folds.specs.Arith.{f32}
use Rattle.folds.specs.Lists.{All}
use Rattle.cells.specs.Points.{Point, nowhere}
use Rattle.sheet_file.specs.Bytes.{Bytes, le16, le32}
use Rattle.sheet_file.specs.Frame.{field_at, end_from, strengths_from, points_from, gate_from, framing_of}
use Rattle.sheet_file.specs.Grammar.{field}
use Rattle.sheet_file.specs.Refusals.{defaults_for, edge_shape_of, fraction_of, settings_of, bad_flag, bad_float}
use Rattle.sheet_file.specs.declared.Fraction.TheVariants.{Missing}
use Rattle.sheet_file.specs.declared.Settings.{Settings}
use Rattle.points.specs.Records.{points_in}
use Rattle.points.specs.Refusals.{cell_order}
use Rattle.ruling.specs.Accepted.{Words}
use Rattle.ruling.specs.Ruling.{Ruling, refused, accepted, points_of, ruling_in, ruling_of}
use Rattle.ruling.proofs.Weights.{bytes-by}
use Rattle.written_file.specs.File.{weighed_file}
use Rattle.written_file.specs.Remade.{remade}
use Rattle.written_file.proofs.Framed.{SettingsSize}

-- 7 as f32
abbrev seven : List ℕ
seven = 0 ∷ 0 ∷ 224 ∷ 64 ∷ []

-- This name on an `unfolding` line opens every definition that a file is read by.
unfoldable file-computes : Bool
unfolding remade ruling_of ruling_in framing_of gate_from points_from strengths_from end_from field_at le16 le32 bad_flag bad_float settings_of edge_shape_of fraction_of defaults_for points_in of_bits
file-computes = true

-- cell size 7, fraction 2, and the point in cell (3, −1) with index 258 at (1, 0) with strength 1
pub one-point : weighed_file seven 0x4000_0000 (record { u = 3; v = 0xFFFF_FFFF; index = 258; x = 0x3F80_0000; y = 0; strength = 0x3F80_0000 } ∷ [])
    ≡ 1 ∷ 4 ∷ 0 ∷ 0 ∷ 0 ∷ 224 ∷ 64
    ∷ 3 ∷ 20 ∷ 0 ∷ 3 ∷ 0 ∷ 0 ∷ 0 ∷ 255 ∷ 255 ∷ 255 ∷ 255 ∷ 2 ∷ 1 ∷ 0 ∷ 0 ∷ 0 ∷ 0 ∷ 128 ∷ 63 ∷ 0 ∷ 0 ∷ 0 ∷ 0
    ∷ 4 ∷ 8 ∷ 0 ∷ 0 ∷ 0 ∷ 0 ∷ 64 ∷ 0 ∷ 0 ∷ 128 ∷ 63 ∷ []
one-point = refl

-- of 2 ^ 32 the four bytes hold 0
abbrev wide : Point
wide = record { u = 2 ^ 32; v = 0; index = 0; x = 0; y = 0; strength = 0 }

pub words-needed : ((settings : List ℕ) → SettingsSize settings → (fraction : ℕ) (ps : List Point) → points_of (weighed_file settings fraction ps) ≡ ps) → ⊥
unfolding file-computes
words-needed h = let e : 0 ≡ 2 ^ 32 = ap (λ (ps : List Point). (get_or ps 0 nowhere).u) (h seven (inr refl) 0 (wide ∷ [])) in omega (arith, e)

-- ---- a file made of another

-- tag 2: minimum degree 1, cosines and ratios of 0 but for a last ratio of 7
abbrev gate : List ℕ
gate = 2 ∷ 17 ∷ 0 ∷ 1 ∷ 0 ∷ 0 ∷ 0 ∷ 0 ∷ 0 ∷ 0 ∷ 0 ∷ 0 ∷ 0 ∷ 0 ∷ 0 ∷ 0 ∷ 0 ∷ 0 ∷ 224 ∷ 64 ∷ []

-- cell size 7, tag 2, the point in cell (3, 0) with index 9 at (1, 0), and tag 4 with fraction 2 and strength 1
abbrev left : List ℕ
left = 1 ∷ 4 ∷ 0 ∷ 0 ∷ 0 ∷ 224 ∷ 64 ∷ (gate ++ (
    3 ∷ 20 ∷ 0 ∷ 3 ∷ 0 ∷ 0 ∷ 0 ∷ 0 ∷ 0 ∷ 0 ∷ 0 ∷ 9 ∷ 0 ∷ 0 ∷ 0 ∷ 0 ∷ 0 ∷ 128 ∷ 63 ∷ 0 ∷ 0 ∷ 0 ∷ 0
    ∷ 4 ∷ 8 ∷ 0 ∷ 0 ∷ 0 ∷ 0 ∷ 64 ∷ 0 ∷ 0 ∷ 128 ∷ 63 ∷ []))

-- the points in cells (3, 0) and (4, −1) with indices 9 and 2 ^ 31 + 5 at (1, 0) and (2, 0) with strengths 1 and 2
abbrev two : List Point
two =
    record { u = 3; v = 0; index = 9; x = 0x3F80_0000; y = 0; strength = 0x3F80_0000 }
    ∷ record { u = 4; v = 0xFFFF_FFFF; index = 0x8000_0005; x = 0x4000_0000; y = 0; strength = 0x4000_0000 }
    ∷ []

-- tags 1 and 2 as they are, the two points, and their strengths after the fraction 2
pub with-two : remade left two
    ≡ 1 ∷ 4 ∷ 0 ∷ 0 ∷ 0 ∷ 224 ∷ 64 ∷ (gate ++ (
    3 ∷ 40 ∷ 0 ∷ 3 ∷ 0 ∷ 0 ∷ 0 ∷ 0 ∷ 0 ∷ 0 ∷ 0 ∷ 9 ∷ 0 ∷ 0 ∷ 0 ∷ 0 ∷ 0 ∷ 128 ∷ 63 ∷ 0 ∷ 0 ∷ 0 ∷ 0
    ∷ 4 ∷ 0 ∷ 0 ∷ 0 ∷ 255 ∷ 255 ∷ 255 ∷ 255 ∷ 5 ∷ 0 ∷ 0 ∷ 128 ∷ 0 ∷ 0 ∷ 0 ∷ 64 ∷ 0 ∷ 0 ∷ 0 ∷ 0
    ∷ 4 ∷ 12 ∷ 0 ∷ 0 ∷ 0 ∷ 0 ∷ 64 ∷ 0 ∷ 0 ∷ 128 ∷ 63 ∷ 0 ∷ 0 ∷ 0 ∷ 64 ∷ []))
unfolding file-computes
with-two = refl

-- without points there is tag 4 with the fraction alone; and of a file without tag 4 one without it is made
pub with-none : remade left [] ≡ 1 ∷ 4 ∷ 0 ∷ 0 ∷ 0 ∷ 224 ∷ 64 ∷ (gate ++ (3 ∷ 0 ∷ 0 ∷ 4 ∷ 4 ∷ 0 ∷ 0 ∷ 0 ∷ 0 ∷ 64 ∷ []))
unfolding file-computes
with-none = refl

pub unweighed-none : remade (field 1 seven ++ field 3 []) [] ≡ field 1 seven ++ field 3 []
unfolding file-computes
unweighed-none = refl

-- a file without tag 4 has no room for a strength: one made with a point of infinite strength is not refused with 13, as that point is
abbrev heavy : Point
heavy = record { u = 0; v = 0; index = 0; x = 0; y = 0; strength = 0x7F80_0000 }

abbrev number_of : Ruling → ℕ
number_of (refused k) = k
number_of (accepted s ps) = 0

pub strengths-needed : ((file : List ℕ) (size : ℕ) (s : Settings) (ls : List Point) → Bytes file → ruling_of file size ≡ accepted s ls → (ps : List Point) → All Words ps
    → (room : ℕ) → ruling_of (remade file ps) room ≡ ruling_in room s ps) → ⊥
unfolding file-computes
strengths-needed h =
    let plain = field 1 seven ++ field 3 [] in
    let e : 0 ≡ 13 = ap number_of (h plain 0 (defaults_for (f32 0x40E0_0000) None Missing) (cell_order []) (bytes-by plain refl) refl (heavy ∷ []) (words, tt) 28) in
    omega (arith, e)
  where
    words : Words heavy
    words = record { u = omega arith; v = omega arith; index = omega arith; x = omega arith; y = omega arith; strength = omega arith }
