-- Positions for dropped points, of small files: by the rule, with one pair, two and none; and what they depend on. Assumes nothing.
use mathlib.Core.Path.{◌≡◌, refl, sym, ap, ◌∙◌}
use mathlib.Core.Bool.{true}
use mathlib.Core.List.Permᴰ
use mathlib.Core.List.{List, [], ◌∷◌, ◌++◌}
use Prim.Native.Nat.{ℕ, ◌≤◌}
use native.Mathlib.Omega.{arith}
use lib.Dec.{T}
use lib.Ieee.Scale.{finite}
use lib.ListN.{get_or, replicate}
use Rattle.folds.specs.Arith.{f32}
use Rattle.folds.specs.Below.{some, every}
use Rattle.folds.specs.Lists.{list_of}
use Rattle.cells.specs.Points.{Point, nowhere}
use Rattle.cells.specs.Cell.{Cell, cell_of}
use Rattle.sheet_file.specs.Bytes.{Bytes}
use Rattle.sheet_file.specs.Frame.{framing_of, layout_of}
use Rattle.sheet_file.specs.Refusals.{settings_in, gate_in}
use Rattle.sheet_file.specs.declared.Settings.{Settings}
use Rattle.ruling.specs.Ruling.{accepted, ruling_of}
use Rattle.ruling.specs.Order.{records_in, Relisted}
use Rattle.ruling.specs.Accepted.{AcceptedSheet}
use Rattle.ruling.proofs.Accepted.{of-file}
use Rattle.ruling.proofs.Weights.{bytes-by, headed-by}
use Rattle.predict.specs.Predict.{Prediction}
use Rattle.std.specs.Prelude.{Some, None, Ok, Err}
use Rattle.sheet_fills.specs.Answer.{fill_answer_of, fills_after}
use Rattle.promises.specs.Fills.{fill_in, dropped_rank, predicted_in, PairAt, Fills, KeptAlike}
use Rattle.promises.proofs.Fills.{fills, two-pairs, finite-fills, kept-alone, fills-another-order}
use Rattle.stars.specs.Stars.{rules-compute, settings}
use Rattle.stars.specs.Listed.{file-computes}
use Rattle.instances.specs.Files.{five, marks_of}
use Rattle.instances.proofs.KeptPatch.{five-sheet, fifth_marked, five-marks}
use Rattle.fill_instances.specs.Sheets.{fills-compute, filled, row_settings, row, row_file, row_turned, other_settings, other, other_file, plus_settings, plus, plus_file}
use Rattle.fill_instances.proofs.Computed.{fill_by, fill-by, dropped-by, alike-by}

-- ---- a row of three whose middle is dropped: one pair

pub row-bytes : Bytes row_file
row-bytes = bytes-by row_file refl

pub row-accepted : ruling_of row_file 84 ≡ accepted row_settings row
unfolding file-computes rules-compute settings_in gate_in
row-accepted = refl

pub row-sheet : AcceptedSheet row_settings row
row-sheet = of-file row_file 84 row_settings row row-bytes row-accepted

abbrev pub middle_marked : List ℕ
middle_marked = 0 ∷ 1 ∷ 0 ∷ []

pub row-marks : marks_of row_settings row ≡ middle_marked
unfolding fills-compute
row-marks = refl

row-computed : list_of 3 (fill_by row_settings row middle_marked) ≡ None ∷ filled 1 0x4120_0000 0 ∷ None ∷ []
unfolding fills-compute
row-computed = refl

-- half way from (0,0) to (20,0)
pub middle-filled : fill_in row_settings row 1 ≡ filled 1 0x4120_0000 0
unfolding list_of
middle-filled = fill-by row_settings row middle_marked row-marks 1 ∙ ap (λ (l : List Prediction). get_or l 1 None) row-computed

pub middle-dropped : dropped_rank row_settings row 1 ≡ true
middle-dropped = dropped-by row_settings row middle_marked row-marks 1 (omega arith) refl

-- what the promise says of it: the rule on cells finds that, from two kept points; and a kept point has no fill
pub row-promised : Fills row_settings row
row-promised = fills row_settings row row-sheet

pub middle-by-rule : predicted_in row_settings row (cell_of (get_or row 1 nowhere)) ≡ filled 1 0x4120_0000 0
middle-by-rule = sym (row-promised.by-cells 1 middle-dropped) ∙ middle-filled

-- what the call leaves in a buffer of 20 bytes a point, which held 255 throughout: (1, 0), one pair, (10, 0)
pub row-fills-left : fills_after row_file (replicate 60 255) ≡ (1 ∷ 0 ∷ 0 ∷ 0 ∷ 0 ∷ 0 ∷ 0 ∷ 0 ∷ 1 ∷ 0 ∷ 0 ∷ 0 ∷ 0 ∷ 0 ∷ 32 ∷ 65 ∷ 0 ∷ 0 ∷ 0 ∷ 0 ∷ []) ++ replicate 40 255
unfolding fills_after file-computes fills-compute settings_in gate_in
row-fills-left = refl

-- and what it answers: with a byte less it refuses
pub row-fills-answered : (fill_answer_of row_file 60 ≡ Ok (record { points = 3; fills = 1 })) × (fill_answer_of row_file 59 ≡ Err 3)
unfolding fill_answer_of file-computes fills-compute settings_in gate_in
row-fills-answered = (refl, refl)

pub middle-pair : (i : ℕ) × (j : ℕ) × (m : ℕ) × PairAt row_settings row 1 i j m
middle-pair = row-promised.some_pair 1 _ middle-filled

-- and it is finite
pub middle-finite : T (finite (f32 0x4120_0000)) × T (finite (f32 0))
middle-finite = finite-fills row_settings row row-sheet 1 _ middle-filled

-- ---- five points in the shape of a plus: two pairs, which is the most

pub plus-bytes : Bytes plus_file
plus-bytes = bytes-by plus_file refl

pub plus-accepted : ruling_of plus_file 140 ≡ accepted plus_settings plus
unfolding file-computes rules-compute settings_in
plus-accepted = refl

pub plus-sheet : AcceptedSheet plus_settings plus
plus-sheet = of-file plus_file 140 plus_settings plus plus-bytes plus-accepted

abbrev pub centre_marked : List ℕ
centre_marked = 0 ∷ 0 ∷ 1 ∷ 0 ∷ 0 ∷ []

pub plus-marks : marks_of plus_settings plus ≡ centre_marked
unfolding fills-compute
plus-marks = refl

plus-computed : fill_by plus_settings plus centre_marked 2 ≡ filled 2 0x4144_0000 0x4114_0000
unfolding fills-compute
plus-computed = refl

pub centre-filled : fill_in plus_settings plus 2 ≡ filled 2 0x4144_0000 0x4114_0000
centre-filled = fill-by plus_settings plus centre_marked plus-marks 2 ∙ plus-computed

pub two-at-most : 2 ≤ 2
two-at-most = two-pairs plus_settings plus plus-sheet 2 _ centre-filled

-- ---- the sheet of five points: (5, 5) has no pair

five-computed : fill_by settings five fifth_marked 4 ≡ None
unfolding fills-compute
five-computed = refl

pub fifth-filled : fill_in settings five 4 ≡ None
fifth-filled = fill-by settings five fifth_marked five-marks 4 ∙ five-computed

-- what the promise says of it: no two kept points are at opposite neighbours
pub fifth-alone : (i j m : ℕ) → PairAt settings five 4 i j m → ⊥
fifth-alone = (fills settings five five-sheet).none_only 4 (dropped-by settings five fifth_marked five-marks 4 (omega arith) refl) fifth-filled

-- ---- the same kept points with another middle, other indices, another order and other settings: the same fill

pub other-bytes : Bytes other_file
other-bytes = bytes-by other_file refl

pub other-accepted : ruling_of other_file 84 ≡ accepted other_settings other
unfolding file-computes rules-compute settings_in gate_in
other-accepted = refl

pub other-marks : marks_of other_settings other ≡ middle_marked
unfolding fills-compute
other-marks = refl

other-alike : KeptAlike (λ (c : Cell). c) row_settings row other_settings other
unfolding every some
other-alike = alike-by (λ (c : Cell). c) row_settings other_settings row other middle_marked middle_marked row-marks other-marks refl refl

pub other-filled : fill_in other_settings other 1 ≡ filled 1 0x4120_0000 0
other-filled =
    kept-alone row_settings other_settings row other row-sheet (of-file other_file 84 other_settings other other-bytes other-accepted) refl other-alike 1 1 middle-dropped
    (dropped-by other_settings other middle_marked other-marks 1 (omega arith) refl) refl
    ∙ middle-filled

-- ---- another order

row-framed : framing_of row_file ≡ Some (layout_of row_file)
unfolding file-computes
row-framed = refl

row-relisted : Relisted row_file row_turned (layout_of row_file)
unfolding file-computes records_in every
row-relisted = record { rest = headed-by row_file row_turned (layout_of row_file) refl refl refl; records = Permᴰ.swap refl refl }

pub turned-filled : (t : Settings) (qs : List Point) → ruling_of row_turned 84 ≡ accepted t qs → fill_in t qs 1 ≡ filled 1 0x4120_0000 0
turned-filled t qs e =
    ap (λ (l : List Prediction). get_or l 1 None) (fills-another-order row_file row_turned (layout_of row_file) row-bytes row-framed row-relisted 84 row_settings t row qs row-accepted e)
    ∙ middle-filled
