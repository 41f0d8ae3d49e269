-- Demand 3 (d), the switches, of a file of which each filter that goes without strengths marks some point with the one switches or the
-- other. No file shows what its condition, settings of length 21, is for: those of length 4 have no switches, "the rest is `ValidationParams::default` with both switches 1".
-- Assumes nothing.
use Rattle.std.specs.Prelude.{Some}
use mathlib.Core.Path.{◌≡◌, refl, sym, ap, ◌∙◌}
use mathlib.Core.Bool.{true, false}
use mathlib.Core.List.{List, [], ◌∷◌}
use mathlib.Core.Logic.{◌⊎◌, inl, inr}
use Prim.Native.Nat.{ℕ, ◌+◌, ◌-◌, ◌≤◌, ◌<◌}
use native.Mathlib.Omega.{arith}
use lib.ListN.{length, get_or, drop}
use lib.Seq.{get_or-drop}
use borrow.Author.Tests.{eqb-true}
use Rattle.folds.specs.Arith.{f32}
use Rattle.folds.specs.Below.{every}
use Rattle.folds.proofs.Below.{every-at}
use Rattle.cells.specs.Points.{Point}
use Rattle.sheet_file.specs.Bytes.{Bytes, byte_at}
use Rattle.sheet_file.specs.Frame.{layout_of}
use Rattle.sheet_file.specs.Refusals.{defaults_with, settings_in, gate_in, no_flag}
use Rattle.sheet_file.specs.declared.Fraction.TheVariants.{Missing}
use Rattle.sheet_file.specs.declared.Settings.{Settings}
use Rattle.edge_shape.specs.Figures.{index_figures}
use Rattle.ruling.specs.Ruling.{accepted, ruling_of}
use Rattle.ruling.specs.Switches.{Switched, switched}
use Rattle.ruling.proofs.Switches.{switches}
use Rattle.ruling.proofs.Weights.{bytes-by, same_byte}
use Rattle.promises.specs.Promises.{SameRowBits}
use Rattle.promises.proofs.Theorems.{switched-rows}
use Rattle.stars.specs.Stars.{rules-compute}
use Rattle.stars.specs.Listed.{file-computes}
use Rattle.instances.specs.Files.{point, gated_file, marks_of}

-- another file with other switches, by a test of its bytes before them and after
pub switched-by : (file other : List ℕ) → length other ≡ length file → every (same_byte file other) 22 ≡ true → drop 24 other ≡ drop 24 file → no_flag (byte_at other 22) ≡ false
    → no_flag (byte_at other 23) ≡ false → Switched file other
switched-by file other size before after f g = record { size = size; rest = same; first = f; second = g }
  where
    same : (k : ℕ) → (k < 22) ⊎ (24 ≤ k) → get_or other k 0 ≡ get_or file k 0
    same k (inl h) = eqb-true (get_or other k 0) (get_or file k 0) (every-at (same_byte file other) 22 before k h)
    same k (inr h) =
        let e : 24 + (k - 24) ≡ k = omega arith in
        rw e at (sym (get_or-drop 24 other (k - 24) 0) ∙ ap (λ (l : List ℕ). get_or l (k - 24) 0) after ∙ get_or-drop 24 file (k - 24) 0)

-- Three points in a corner at (0,0), three at (5,5) that turn the other way; (10,0) and (11,0), 19 pixels apart; (20,0) and (21,0), 100 pixels
-- apart; and (30,0) with no neighbour
abbrev points : List Point
points =
    point 0 0 10 0 0 ∷ point 0 1 12 0 0x42C8_0000 ∷ point 1 0 11 0x42C8_0000 0
    ∷ point 5 5 13 0x43FA_0000 0x43FA_0000 ∷ point 5 6 15 0x4416_0000 0x43FA_0000 ∷ point 6 5 14 0x43FA_0000 0x4416_0000
    ∷ point 10 0 16 0x447A_0000 0 ∷ point 11 0 17 0x447E_C000 0
    ∷ point 20 0 18 0x44FA_0000 0 ∷ point 21 0 19 0x4503_4000 0
    ∷ point 30 0 20 0x453B_8000 0
    ∷ []

-- cell size 100, minimum degree 1: with both switches, and without the wrong-label switch
abbrev both : List ℕ
both = gated_file 0x42C8_0000 1 1 1 points

abbrev largest_only : List ℕ
largest_only = gated_file 0x42C8_0000 0 1 1 points

abbrev settings : Settings
settings =
    defaults_with 3 (f32 0x42C8_0000)
    (Some
    (record {
      min_cardinal_degree = 1;
      continuation_cos_min = f32 0;
      continuation_length_ratio_max = f32 0x4080_0000;
      cell_opposite_cos_min = f32 0;
      cell_opposite_length_ratio_max = f32 0x4080_0000;
    }))
    Missing

pub both-accepted : ruling_of both 308 ≡ accepted settings points
unfolding file-computes rules-compute settings_in gate_in
both-accepted = refl

-- the corners have the orientation mark, the near pair the wrong-label mark, and the last point the validate mark
pub both-marks : marks_of settings points ≡ 2 ∷ 2 ∷ 2 ∷ 2 ∷ 2 ∷ 2 ∷ 4 ∷ 4 ∷ 0 ∷ 0 ∷ 1 ∷ []
unfolding rules-compute index_figures
both-marks = refl

-- the other switches, and nothing else
is-switched : Switched both largest_only
unfolding every
is-switched = switched-by both largest_only refl refl refl refl refl

long : (layout_of both).full ≡ true
unfolding file-computes
long = refl

both_bytes : Bytes both
both_bytes = bytes-by both refl

pub largest-only-accepted : ruling_of largest_only 308 ≡ accepted (switched settings 0 1) points
largest-only-accepted = switches both largest_only is-switched long 308 settings points both-accepted

-- the near pair is no longer marked, so the other pair, a patch of as many points, has the component mark; bits 0 and 1 stay
pub largest-only-marks : marks_of (switched settings 0 1) points ≡ 2 ∷ 2 ∷ 2 ∷ 2 ∷ 2 ∷ 2 ∷ 0 ∷ 0 ∷ 8 ∷ 8 ∷ 1 ∷ []
unfolding rules-compute index_figures
largest-only-marks = refl

-- what the promise says of it: the validate and orientation bits of all eleven rows stay
pub same_bits : (buffer : List ℕ) → length buffer ≡ 308 → SameRowBits both largest_only buffer 11
same_bits buffer e = switched-rows both largest_only buffer both_bytes is-switched long settings points (rw e both-accepted)
