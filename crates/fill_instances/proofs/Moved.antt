-- Fills under a whole move: of a row whose kept points move along; and of five points whose kept points do not, so that a fill changes. Assumes
-- nothing.
use mathlib.Core.Path.{◌≡◌, refl, sym, ap, ◌∙◌, subst}
use mathlib.Core.Bool.{Bool, true}
use mathlib.Core.List.{List, [], ◌∷◌}
use Prim.Native.Nat.{ℕ}
use native.Mathlib.Omega.{arith}
use lib.IntN.{ℤ, pos, negsuc}
use lib.ListN.{get_or}
use Rattle.folds.specs.Below.{some, every}
use Rattle.cells.specs.Points.{Point, nowhere}
use Rattle.cells.specs.Cell.{cell_of, moved}
use Rattle.sheet_file.specs.Bytes.{Bytes}
use Rattle.sheet_file.specs.Refusals.{settings_in, gate_in}
use Rattle.sheet_file.specs.declared.Settings.{Settings}
use Rattle.ruling.specs.Ruling.{Ruling, accepted, ruling_of}
use Rattle.ruling.specs.Offset.{MovedAlong, moved_file, StaysInRange}
use Rattle.ruling.proofs.Accepted.{of-file}
use Rattle.ruling.proofs.MovedFile.{moved-bytes}
use Rattle.predict.specs.Predict.{Prediction}
use Rattle.std.specs.Prelude.{None}
use Rattle.predict.proofs.Few.{pairs_in}
use Rattle.drop_set.specs.Filters.{sides_of}
use Rattle.judging.specs.Judging.{fills_for}
use Rattle.promises.specs.Words.{kept_rank}
use Rattle.promises.specs.Fills.{fill_in, dropped_rank, KeptAlike, MovedFills}
use Rattle.promises.proofs.Fills.{kept-moved, moved-file-fills}
use Rattle.stars.specs.Stars.{rules-compute}
use Rattle.stars.specs.Listed.{file-computes}
use Rattle.instances.specs.Files.{marks_of}
use Rattle.instances.proofs.Computed.{in-range-by, kept-is}
use Rattle.fill_instances.specs.Sheets.{fills-compute, filled, row_settings, row, row_file, row_moved, plus_settings, plus, plus_file, plus_moved}
use Rattle.fill_instances.proofs.Computed.{fill_by, fill-by, dropped-by, alike-by}
use Rattle.fill_instances.proofs.Fills.{row-bytes, row-accepted, row-sheet, middle_marked, row-marks, middle-filled, middle-dropped, plus-bytes, plus-accepted, centre_marked, plus-marks, centre-filled}

-- the points of which the promise speaks are those that the moved file's ruling names
points-are : {x : Ruling} {a b : ℤ} {s : Settings} {ps qs : List Point} (p : MovedAlong x a b s ps) → x ≡ accepted s qs → p.points ≡ qs
points-are {s = s} {qs = qs} p e = let q : accepted s p.points ≡ accepted s qs = sym p.ruling ∙ e in cc

-- ---- the row, moved by (−6, 7)

row-in-range : StaysInRange (negsuc 5) (pos 7) row
unfolding every
row-in-range = in-range-by (negsuc 5) (pos 7) row refl

row-moved-accepted : ruling_of (moved_file row_file (negsuc 5) (pos 7)) 84 ≡ accepted row_settings row_moved
unfolding file-computes moved_file rules-compute settings_in gate_in
row-moved-accepted = refl

row-moved-marks : marks_of row_settings row_moved ≡ middle_marked
unfolding fills-compute
row-moved-marks = refl

-- what the promise says of it: the kept patch has moved along, and so have the fills
pub row-moved : MovedFills (ruling_of (moved_file row_file (negsuc 5) (pos 7)) 84) (negsuc 5) (pos 7) row_settings row
row-moved = moved-file-fills row_file (negsuc 5) (pos 7) row-bytes 84 row_settings row row-accepted row-in-range

row-along : (k : ℕ) → kept_rank row_settings row_moved k ≡ kept_rank row_settings row k
row-along k = ap (λ (K : ℕ → Bool). K k) (kept-is row_settings row_moved middle_marked row-moved-marks ∙ sym (kept-is row_settings row middle_marked row-marks))

pub row-fills-moved : fills_for row_settings row_moved ≡ fills_for row_settings row
row-fills-moved =
    subst (λ (qs : List Point). ((k : ℕ) → kept_rank row_settings qs k ≡ kept_rank row_settings row k) → fills_for row_settings qs ≡ fills_for row_settings row) (points-are row-moved.along row-moved-accepted)
    row-moved.kept row-along

pub middle-moved : fill_in row_settings row_moved 1 ≡ filled 1 0x4120_0000 0
middle-moved = ap (λ (l : List Prediction). get_or l 1 None) row-fills-moved ∙ middle-filled

-- the same from the kept points alone
row-alike : KeptAlike (moved (negsuc 5) (pos 7)) row_settings row row_settings row_moved
unfolding every some
row-alike = alike-by (moved (negsuc 5) (pos 7)) row_settings row_settings row row_moved middle_marked middle_marked row-marks row-moved-marks refl refl

pub middle-carried : fill_in row_settings row_moved 1 ≡ fill_in row_settings row 1
middle-carried =
    kept-moved row_settings row_settings row row_moved row-sheet (of-file (moved_file row_file (negsuc 5) (pos 7)) 84 row_settings row_moved (moved-bytes row_file (negsuc 5) (pos 7) row-bytes) row-moved-accepted) refl (negsuc 5) (pos 7)
    row-alike 1 1 middle-dropped (dropped-by row_settings row_moved middle_marked row-moved-marks 1 (omega arith) refl) refl

-- ---- five points, moved by (0, −1): index 3 gets the validate mark by rounding, and the fill of the middle has one pair in place of two

plus-in-range : StaysInRange (pos 0) (negsuc 0) plus
unfolding every
plus-in-range = in-range-by (pos 0) (negsuc 0) plus refl

plus-moved-accepted : ruling_of (moved_file plus_file (pos 0) (negsuc 0)) 140 ≡ accepted plus_settings plus_moved
unfolding file-computes moved_file rules-compute settings_in
plus-moved-accepted = refl

abbrev two_marked : List ℕ
two_marked = 0 ∷ 0 ∷ 1 ∷ 1 ∷ 0 ∷ []

pub plus-moved-marks : marks_of plus_settings plus_moved ≡ two_marked
unfolding fills-compute
plus-moved-marks = refl

plus-moved-computed : fill_by plus_settings plus_moved two_marked 2 ≡ filled 1 0x4148_0000 0x4118_0000
unfolding fills-compute
plus-moved-computed = refl

pub centre-moved : fill_in plus_settings plus_moved 2 ≡ filled 1 0x4148_0000 0x4118_0000
centre-moved = fill-by plus_settings plus_moved two_marked plus-moved-marks 2 ∙ plus-moved-computed

differ : fill_in plus_settings plus_moved 2 ≡ fill_in plus_settings plus 2 → ⊥
differ e = let z : ◌≡◌ {A = ℕ} 1 2 = ap pairs_in (sym centre-moved ∙ e ∙ centre-filled) in omega arith

-- so the promise needs that the kept patch has moved along
pub along-needed : ((file : List ℕ) (a b : ℤ) → Bytes file → (room : ℕ) (s : Settings) (ps : List Point) → ruling_of file room ≡ accepted s ps → StaysInRange a b ps
    → (p : MovedFills (ruling_of (moved_file file a b) room) a b s ps) → fills_for s p.along.points ≡ fills_for s ps) → ⊥
along-needed f =
    let p = moved-file-fills plus_file (pos 0) (negsuc 0) plus-bytes 140 plus_settings plus plus-accepted plus-in-range in
    differ
    (ap (λ (l : List Prediction). get_or l 2 None)
    (subst (λ (qs : List Point). fills_for plus_settings qs ≡ fills_for plus_settings plus) (points-are p.along plus-moved-accepted)
    (f plus_file (pos 0) (negsuc 0) plus-bytes 140 plus_settings plus plus-accepted plus-in-range p)))

-- and two sheets, of files too, have one fill at a cell only where their kept points are alike
pub alike-needed : ((file other : List ℕ) (room size : ℕ) (s t : Settings) (ps qs : List Point) → Bytes file → Bytes other → ruling_of file room ≡ accepted s ps → ruling_of other size ≡ accepted t qs
    → sides_of s ≡ sides_of t → (a b : ℤ) (k m : ℕ) → dropped_rank s ps k ≡ true → dropped_rank t qs m ≡ true → cell_of (get_or qs m nowhere) ≡ moved a b (cell_of (get_or ps k nowhere)) → fill_in t qs m ≡ fill_in s ps k) → ⊥
alike-needed f =
    differ
    (f plus_file (moved_file plus_file (pos 0) (negsuc 0)) 140 140 plus_settings plus_settings plus plus_moved plus-bytes (moved-bytes plus_file (pos 0) (negsuc 0) plus-bytes) plus-accepted plus-moved-accepted refl (pos 0) (negsuc 0) 2 2
    (dropped-by plus_settings plus centre_marked plus-marks 2 (omega arith) refl) (dropped-by plus_settings plus_moved two_marked plus-moved-marks 2 (omega arith) refl) refl)
