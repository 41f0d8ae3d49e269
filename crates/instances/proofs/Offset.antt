-- Demand 3 (c), an offset, of the sheet of five points; of a sheet whose validate marks do not stay; and out of range. Assumes nothing.
use mathlib.Core.Path.{◌≡◌, refl, sym, ap, ◌∙◌, subst}
use mathlib.Core.Bool.{Bool, false, ◌&&◌, true≢false}
use mathlib.Core.List.{List, [], ◌∷◌}
use Prim.Native.Nat.{ℕ, ◌+◌, ◌<◌}
use native.Mathlib.Omega.{arith}
use lib.Dec.{eqb, ltb}
use lib.IntN.{ℤ, pos, negsuc}
use lib.ListN.{length, get_or}
use Rattle.folds.specs.Below.{some, every}
use Rattle.folds.proofs.Below.{some-fails}
use Rattle.cells.specs.Points.{Point}
use Rattle.cells.specs.Cell.{cells_of}
use Rattle.grid.specs.Views.{view_of}
use Rattle.sheet_file.specs.Bytes.{Bytes}
use Rattle.sheet_file.specs.Refusals.{settings_in}
use Rattle.sheet_file.specs.declared.Settings.{Settings}
use Rattle.ruling.specs.Ruling.{Ruling, refused, accepted, ruling_of}
use Rattle.ruling.specs.Offset.{moved_file, StaysInRange}
use Rattle.ruling.proofs.Weights.{bytes-by}
use Rattle.marks.specs.Filters.{validate}
use Rattle.marks.specs.Byte.{has_mark}
use Rattle.validate.specs.Validate.{validate_mark}
use Rattle.promises.specs.Words.{marks_in, kept_rank}
use Rattle.promises.specs.Promises.{MovedMarks}
use Rattle.promises.proofs.Moving.{validate-in}
use Rattle.promises.proofs.Theorems.{moved-file}
use Rattle.stars.specs.Stars.{rules-compute, settings, of_three}
use Rattle.stars.specs.Listed.{file, file-computes}
use Rattle.instances.specs.Files.{point, short_file, long_file, five, marks_of}
use Rattle.instances.proofs.Computed.{in-range-by, marks-are, kept-is}
use Rattle.instances.proofs.KeptPatch.{file-bytes, file-accepted, fifth_marked, five-marks}

-- the points of which the promise speaks are those that the ruling on what was moved names
pub points-are : {x : Ruling} {a b : ℤ} {s : Settings} {ps qs : List Point} (p : MovedMarks x a b s ps) → x ≡ accepted s qs → p.along.points ≡ qs
points-are {s = s} {qs = qs} p e = let q : accepted s p.along.points ≡ accepted s qs = sym p.along.ruling ∙ e in cc

-- two sheets of as many points without a validate mark have the same validate marks
pub none-marked : (s : Settings) (ps qs : List Point) (m : List ℕ) → marks_of s ps ≡ m → length qs ≡ length ps → some (λ (k : ℕ). has_mark validate (get_or m k 0)) (length ps) ≡ false
    → some (validate_mark s (view_of qs) (cells_of qs)) (length ps) ≡ false → (k : ℕ) → k < length ps → has_mark validate (marks_in s qs k) ≡ has_mark validate (marks_in s ps k)
none-marked s ps qs m e size old new k h =
    validate-in s qs k (omega (arith, size, h))
    ∙ some-fails (validate_mark s (view_of qs) (cells_of qs)) (length ps) new k h
    ∙ sym (some-fails (λ (k : ℕ). has_mark validate (get_or m k 0)) (length ps) old k h)
    ∙ sym (ap (has_mark validate) (marks-are s ps m e k h))

-- ---- the sheet of five points, moved by (-6, 7)

-- 0xFFFFFFFF is -1, 0xFFFFFFFB -5 and 0xFFFFFFFA -6
abbrev pub shifted : List ℕ
shifted =
    short_file 0x42C8_0000
    (point 0xFFFF_FFFF 12 14 0x43FA_0000 0x43FA_0000 ∷ point 0xFFFF_FFFA 7 10 0 0 ∷ point 0xFFFF_FFFB 7 11 0x42C8_0000 0
    ∷ point 0xFFFF_FFFA 8 12 0 0x42C8_0000 ∷ point 0xFFFF_FFFB 8 13 0x42C8_0000 0x42C8_0000 ∷ [])

pub shifted-is : moved_file file (negsuc 5) (pos 7) ≡ shifted
unfolding file-computes moved_file
shifted-is = refl

-- its points in cell order
abbrev pub six_less : List Point
six_less =
    point 0xFFFF_FFFA 7 10 0 0 ∷ point 0xFFFF_FFFA 8 12 0 0x42C8_0000
    ∷ point 0xFFFF_FFFB 7 11 0x42C8_0000 0 ∷ point 0xFFFF_FFFB 8 13 0x42C8_0000 0x42C8_0000
    ∷ point 0xFFFF_FFFF 12 14 0x43FA_0000 0x43FA_0000
    ∷ []

pub in-range : StaysInRange (negsuc 5) (pos 7) five
unfolding every
in-range = in-range-by (negsuc 5) (pos 7) five refl

-- what the promise says of it
pub five-moved : MovedMarks (ruling_of (moved_file file (negsuc 5) (pos 7)) 140) (negsuc 5) (pos 7) settings five
five-moved = moved-file file (negsuc 5) (pos 7) file-bytes 140 settings five file-accepted in-range

by_bytes : ruling_of shifted 140 ≡ accepted settings six_less
unfolding file-computes rules-compute
by_bytes = refl

pub shifted-accepted : ruling_of (moved_file file (negsuc 5) (pos 7)) 140 ≡ accepted settings six_less
shifted-accepted = ap (λ (f : List ℕ). ruling_of f 140) shifted-is ∙ by_bytes

-- the condition: neither sheet has a validate mark
none_before : some (λ (k : ℕ). has_mark validate (get_or fifth_marked k 0)) 5 ≡ false
unfolding some
none_before = refl

none_after : some (validate_mark settings (view_of six_less) (cells_of six_less)) 5 ≡ false
unfolding rules-compute
none_after = refl

pub validate-stays : (k : ℕ) → k < 5 → has_mark validate (marks_in settings six_less k) ≡ has_mark validate (marks_in settings five k)
validate-stays = none-marked settings five six_less fifth_marked five-marks refl none_before none_after

-- so the marks are those of the sheet before, and "the kept patch has moved along"
pub marks-moved : (k : ℕ) → marks_in settings six_less k ≡ marks_in settings five k
marks-moved =
    let Stay : (qs : List Point) → Type 0 = λ qs. (k : ℕ) → k < 5 → has_mark validate (marks_in settings qs k) ≡ has_mark validate (marks_in settings five k) in
    subst (λ (qs : List Point). Stay qs → (k : ℕ) → marks_in settings qs k ≡ marks_in settings five k) (points-are five-moved shifted-accepted)
    five-moved.same validate-stays

pub kept-moved : (k : ℕ) → kept_rank settings six_less k ≡ kept_rank settings five k
kept-moved k = ap (λ (m : ℕ). ltb k 5 && eqb m 0) (marks-moved k)

-- ---- without the condition on the validate marks: u and v enter the fits as f32s; as given index 3 has no fit, moved it has one by rounding

-- line minimum 3; (2,2) 5 at (200,200); (1,0) 4 at (100,0); (1,1) 3 at (200,100); (1,2) 2 at (100,200); (0,2) 8 at (25,200)
abbrev pub bent : List ℕ
bent =
    long_file 0x42C8_0000 1 1
    (point 2 2 5 0x4348_0000 0x4348_0000 ∷ point 1 0 4 0x42C8_0000 0 ∷ point 1 1 3 0x4348_0000 0x42C8_0000
    ∷ point 1 2 2 0x42C8_0000 0x4348_0000 ∷ point 0 2 8 0x41C8_0000 0x4348_0000 ∷ [])

-- its points in cell order, where the smallest u is u
abbrev bent_from : ℕ → List Point
bent_from u =
    point u 2 8 0x41C8_0000 0x4348_0000
    ∷ point (u + 1) 0 4 0x42C8_0000 0 ∷ point (u + 1) 1 3 0x4348_0000 0x42C8_0000 ∷ point (u + 1) 2 2 0x42C8_0000 0x4348_0000
    ∷ point (u + 2) 2 5 0x4348_0000 0x4348_0000
    ∷ []

-- as given, and moved by (1, 0)
abbrev pub given : List Point
given = bent_from 0

abbrev pub one_more : List Point
one_more = bent_from 1

bent-accepted : ruling_of bent 140 ≡ accepted of_three given
unfolding file-computes rules-compute settings_in
bent-accepted = refl

bent-moved-accepted : ruling_of (moved_file bent (pos 1) (pos 0)) 140 ≡ accepted of_three one_more
unfolding file-computes moved_file rules-compute settings_in
bent-moved-accepted = refl

-- as given, 4 and 3 are kept, and 2 has the validate mark; moved, 8 alone is kept, and 3 and 2 have it
pub given-marks : marks_of of_three given ≡ 8 ∷ 0 ∷ 0 ∷ 1 ∷ 8 ∷ []
unfolding rules-compute
given-marks = refl

pub one-more-marks : marks_of of_three one_more ≡ 0 ∷ 8 ∷ 1 ∷ 1 ∷ 8 ∷ []
unfolding rules-compute
one-more-marks = refl

-- the kept patch has not moved along
not-along : ((k : ℕ) → kept_rank of_three one_more k ≡ kept_rank of_three given k) → ⊥
not-along f =
    let old = kept-is of_three given (8 ∷ 0 ∷ 0 ∷ 1 ∷ 8 ∷ []) given-marks in
    let new = kept-is of_three one_more (0 ∷ 8 ∷ 1 ∷ 1 ∷ 8 ∷ []) one-more-marks in
    true≢false (sym (ap (λ (K : ℕ → Bool). K 0) new) ∙ f 0 ∙ ap (λ (K : ℕ → Bool). K 0) old)

-- so "the kept patch has moved along" needs the condition
pub validate-needed : ((file : List ℕ) (a b : ℤ) → Bytes file → (room : ℕ) (s : Settings) (ps : List Point) → ruling_of file room ≡ accepted s ps
    → StaysInRange a b ps → (p : MovedMarks (ruling_of (moved_file file a b) room) a b s ps) → (k : ℕ) → kept_rank s p.along.points k ≡ kept_rank s ps k) → ⊥
unfolding every
validate-needed f =
    let r = in-range-by (pos 1) (pos 0) given refl in
    let p = moved-file bent (pos 1) (pos 0) (bytes-by bent refl) 140 of_three given bent-accepted r in
    not-along
    (subst (λ (qs : List Point). (k : ℕ) → kept_rank of_three qs k ≡ kept_rank of_three given k) (points-are p bent-moved-accepted)
    (f bent (pos 1) (pos 0) (bytes-by bent refl) 140 of_three given bent-accepted r p))

-- ---- out of range: (5, 5) moved to (8001, 5)

pub too_far : ruling_of (moved_file file (pos 7996) (pos 0)) 140 ≡ refused 6
unfolding file-computes moved_file rules-compute
too_far = refl

not-accepted : MovedMarks (ruling_of (moved_file file (pos 7996) (pos 0)) 140) (pos 7996) (pos 0) settings five → ⊥
not-accepted p = let q : refused 6 ≡ accepted settings p.along.points = sym too_far ∙ p.along.ruling in let z : ◌≡◌ {A = ℕ} 0 1 = cc in omega arith

-- so the promise needs its condition on the range
pub range-needed : ((file : List ℕ) (a b : ℤ) → Bytes file → (room : ℕ) (s : Settings) (ps : List Point) → ruling_of file room ≡ accepted s ps
    → MovedMarks (ruling_of (moved_file file a b) room) a b s ps) → ⊥
range-needed f = not-accepted (f file (pos 7996) (pos 0) file-bytes 140 settings five file-accepted)

-- one less is in range
pub far-enough : MovedMarks (ruling_of (moved_file file (pos 7995) (pos 0)) 140) (pos 7995) (pos 0) settings five
unfolding every
far-enough = moved-file file (pos 7995) (pos 0) file-bytes 140 settings five file-accepted (in-range-by (pos 7995) (pos 0) five refl)
