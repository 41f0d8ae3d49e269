-- "A map on one page", an offset: of the sheet of five points; of a sheet too wide; without points; of a sheet whose validate marks do not stay;
-- and out of range. Assumes nothing.
use mathlib.Core.Path.{◌≡◌, refl, sym, ap, ◌∙◌, subst}
use mathlib.Core.Bool.{false}
use mathlib.Core.List.{List, [], ◌∷◌, ◌++◌}
use mathlib.Core.Logic.{◌⊎◌, inl, inr}
use Prim.Native.Nat.{ℕ, ◌<◌}
use native.Mathlib.Omega.{arith}
use lib.IntN.{ℤ, pos, negsuc, +ℤ_idr}
use lib.ListN.{get_or}
use Rattle.folds.specs.Below.{every}
use Rattle.cells.specs.Points.{Point}
use Rattle.cells.specs.Cell.{cells_of}
use Rattle.sheet_file.specs.Bytes.{Bytes}
use Rattle.sheet_file.specs.Refusals.{settings_in}
use Rattle.sheet_file.specs.declared.Settings.{Settings}
use Rattle.ruling.specs.Ruling.{refused, accepted, ruling_of, rows_size}
use Rattle.ruling.specs.Offset.{moved_file, StaysInRange}
use Rattle.ruling.proofs.Given.{not-refused}
use Rattle.ruling.proofs.Weights.{bytes-by}
use Rattle.marks.specs.Filters.{validate}
use Rattle.marks.specs.Byte.{has_mark}
use Rattle.text.specs.Text.{bytes}
use Rattle.map_lines.specs.Map.{span, too_wide, lines_from, map_of}
use Rattle.sheet_map.specs.Text.{map_ruling_of, map_text_of}
use Rattle.promises.specs.Words.{marks_in}
use Rattle.promises.specs.Map.{BothRefused, LinesMoved, MovedMap}
use Rattle.promises.proofs.Theorems.{map-numbers, moved-file-map}
use Rattle.stars.specs.Stars.{rules-compute, settings, of_three}
use Rattle.stars.specs.Listed.{file, file-computes}
use Rattle.instances.specs.Files.{short_file, five}
use Rattle.instances.proofs.Computed.{in-range-by}
use Rattle.instances.proofs.KeptPatch.{file-bytes}
use Rattle.instances.proofs.Offset.{shifted, shifted-is, six_less, in-range, validate-stays, bent, given, one_more, given-marks, one-more-marks}
use Rattle.instances.proofs.Map.{drawn-by, file-ruled, file-map-ruled, pair, pair_file, wide-accepted, wide-refused}

-- the points of which the promise speaks are those that the moved file's ruling names
points-are : {file other : List ℕ} {a b : ℤ} {s : Settings} {ps qs : List Point} (p : MovedMap file other a b s ps) → ruling_of other rows_size ≡ accepted s qs → p.along.points ≡ qs
points-are {s = s} {qs = qs} p e = let q : accepted s p.along.points ≡ accepted s qs = sym p.along.ruling ∙ e in cc

-- ---- the sheet of five points, moved by (-6, 7)

abbrev moved_five : List ℕ
moved_five = moved_file file (negsuc 5) (pos 7)

-- what the promise says of it
pub five-map : MovedMap file moved_five (negsuc 5) (pos 7) settings five
five-map = moved-file-map file (negsuc 5) (pos 7) file-bytes settings five file-ruled in-range

by_bytes : ruling_of shifted rows_size ≡ accepted settings six_less
unfolding file-computes rules-compute
by_bytes = refl

either_way : BothRefused file moved_five ⊎ LinesMoved file moved_five (pos 7)
either_way =
    let Stay : (qs : List Point) → Type 0 = λ qs. (k : ℕ) → k < 5 → has_mark validate (marks_in settings qs k) ≡ has_mark validate (marks_in settings five k) in
    subst (λ (qs : List Point). Stay qs → BothRefused file moved_five ⊎ LinesMoved file moved_five (pos 7))
    (points-are five-map (ap (λ (f : List ℕ). ruling_of f rows_size) shifted-is ∙ by_bytes)) five-map.same validate-stays

-- it is drawn, so its map has moved along
pub five-along : LinesMoved file moved_five (pos 7)
five-along = elim either_way [
  | inl r ↦ absurd (not-refused (sym r.old ∙ file-map-ruled))
  | inr r ↦ r
]

-- the same characters, and v from 7 on
abbrev from_seven : List ℕ
from_seven =
    bytes "     7 ##...................................................................... \n"
    ++ bytes "     8 ##...................................................................... \n"
    ++ bytes "     9 ........................................................................ \n"
    ++ bytes "    10 ........................................................................ \n"
    ++ bytes "    11 ........................................................................ \n"
    ++ bytes "    12 .....C.................................................................. \n"

shifted-drawn : map_text_of shifted ≡ from_seven
unfolding map_text_of file-computes rules-compute
shifted-drawn = refl

pub five-moved-drawn : map_text_of moved_five ≡ from_seven
five-moved-drawn = ap map_text_of shifted-is ∙ shifted-drawn

-- ---- two points 72 apart in u, moved by (0, 1): refused with 10, as before

pub wide-moved : map_ruling_of (moved_file (pair_file 72 0) (pos 0) (pos 1)) ≡ refused 10
unfolding every
wide-moved =
    (moved-file-map (pair_file 72 0) (pos 0) (pos 1) (bytes-by (pair_file 72 0) refl) settings (pair 72 0) wide-accepted (in-range-by (pos 0) (pos 1) (pair 72 0) refl)).ten wide-refused

-- ---- without points there is no line to move

abbrev empty : List ℕ
empty = short_file 0x42C8_0000 []

empty-accepted : ruling_of empty rows_size ≡ accepted settings []
unfolding file-computes rules-compute
empty-accepted = refl

pub empty-along : MovedMap empty (moved_file empty (pos 1) (pos 1)) (pos 1) (pos 1) settings []
empty-along = moved-file-map empty (pos 1) (pos 1) (bytes-by empty refl) settings [] empty-accepted (λ k h. absurd (omega arith))

pub empty-moved : map_text_of (moved_file empty (pos 1) (pos 1)) ≡ []
unfolding map_text_of moved_file file-computes rules-compute
empty-moved = refl

-- ---- without the condition on the validate marks: the sheet whose validate marks do not stay, as given and moved by (1, 0)

abbrev moved_bent : List ℕ
moved_bent = moved_file bent (pos 1) (pos 0)

bent-accepted : ruling_of bent rows_size ≡ accepted of_three given
unfolding file-computes rules-compute settings_in
bent-accepted = refl

bent-narrow : too_wide 5 (cells_of given) ≡ false
unfolding cells_of span
bent-narrow = refl

pub bent-drawn : map_text_of bent ≡
    bytes "     0 .#...................................................................... \n"
    ++ bytes "     1 .#...................................................................... \n"
    ++ bytes "     2 CVC..................................................................... \n"
unfolding map_of cells_of
bent-drawn = drawn-by bent of_three given (8 ∷ 0 ∷ 0 ∷ 1 ∷ 8 ∷ []) bent-accepted bent-narrow given-marks

bent-moved-accepted : ruling_of moved_bent rows_size ≡ accepted of_three one_more
unfolding file-computes moved_file rules-compute settings_in
bent-moved-accepted = refl

bent-moved-narrow : too_wide 5 (cells_of one_more) ≡ false
unfolding cells_of span
bent-moved-narrow = refl

pub bent-moved-drawn : map_text_of moved_bent ≡
    bytes "     0 .C...................................................................... \n"
    ++ bytes "     1 .V...................................................................... \n"
    ++ bytes "     2 #VC..................................................................... \n"
unfolding map_of cells_of
bent-moved-drawn = drawn-by moved_bent of_three one_more (0 ∷ 8 ∷ 1 ∷ 1 ∷ 8 ∷ []) bent-moved-accepted bent-moved-narrow one-more-marks

bent-map-ruled : map_ruling_of bent ≡ accepted of_three given
bent-map-ruled = (map-numbers bent).none of_three given bent-accepted bent-narrow

-- the map has not moved along
not-along : BothRefused bent moved_bent ⊎ LinesMoved bent moved_bent (pos 0) → ⊥
not-along (inl r) = not-refused (sym r.old ∙ bent-map-ruled)
not-along (inr r) =
    let same : map_text_of bent ≡ map_text_of moved_bent = r.old ∙ ap (λ (v : ℤ). lines_from v r.characters r.count) (sym (+ℤ_idr r.first)) ∙ sym r.new in
    let z : ◌≡◌ {A = ℕ} 35 67 = ap (λ (t : List ℕ). get_or t 8 0) (sym bent-drawn ∙ same ∙ bent-moved-drawn) in
    omega arith

-- so "the same characters" needs the condition
pub validate-needed-for-map : ((file : List ℕ) (a b : ℤ) → Bytes file → (s : Settings) (ps : List Point) → ruling_of file rows_size ≡ accepted s ps → StaysInRange a b ps
    → BothRefused file (moved_file file a b) ⊎ LinesMoved file (moved_file file a b) b) → ⊥
unfolding every
validate-needed-for-map f = not-along (f bent (pos 1) (pos 0) (bytes-by bent refl) of_three given bent-accepted (in-range-by (pos 1) (pos 0) given refl))

-- ---- out of range: (5, 5) moved to (8001, 5)

too_far : ruling_of (moved_file file (pos 7996) (pos 0)) rows_size ≡ refused 6
unfolding file-computes moved_file rules-compute
too_far = refl

-- so the promise needs its condition on the range
pub range-needed-for-map : ((file : List ℕ) (a b : ℤ) → Bytes file → (s : Settings) (ps : List Point) → ruling_of file rows_size ≡ accepted s ps → MovedMap file (moved_file file a b) a b s ps) → ⊥
range-needed-for-map f = not-refused (sym too_far ∙ (f file (pos 7996) (pos 0) file-bytes settings five file-ruled).along.ruling)
