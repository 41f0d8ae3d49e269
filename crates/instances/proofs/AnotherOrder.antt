-- Demand 3 (b), another order, of the sheet of five points; and of a file with another setting. Assumes nothing.
use Rattle.std.specs.Prelude.{Some, Ok}
use mathlib.Core.Path.{◌≡◌, refl, sym, ap, ◌∙◌}
use mathlib.Core.List.Permᴰ
use mathlib.Core.List.{List, [], ◌∷◌, ◌++◌, Permᴰ}
use Prim.Native.Nat.{ℕ}
use native.Mathlib.Omega.{arith}
use lib.ListN.{replicate}
use Rattle.folds.specs.Below.{every}
use Rattle.cells.specs.Points.{Point}
use Rattle.sheet_file.specs.Bytes.{Bytes}
use Rattle.sheet_file.specs.Frame.{framing_of, layout_of}
use Rattle.sheet_file.specs.declared.Layout.{Layout}
use Rattle.ruling.specs.Order.{records_in, Relisted}
use Rattle.ruling.proofs.Weights.{bytes-by, headed-by}
use Rattle.kept.specs.Answer.{answer_of, rows_after}
use Rattle.sheet_listing.specs.Text.{text_of}
use Rattle.promises.specs.Promises.{SameResult}
use Rattle.promises.proofs.Theorems.{another-order}
use Rattle.stars.specs.Stars.{rules-compute, settings}
use Rattle.stars.specs.Listed.{file, file-computes, answered, shown, printed, rows_left}
use Rattle.instances.specs.Files.{point, short_file, ten, eleven, twelve, thirteen, fourteen, zero_size, answered_components, marks_of}
use Rattle.instances.proofs.KeptPatch.{file-bytes}

-- ---- the sheet of five points, its first two and its next two points the other way round

pub file-is : file ≡ short_file 0x42C8_0000 (fourteen ∷ ten ∷ eleven ∷ twelve ∷ thirteen ∷ [])
file-is = refl

abbrev pub turned : List ℕ
turned = short_file 0x42C8_0000 (ten ∷ fourteen ∷ twelve ∷ eleven ∷ thirteen ∷ [])

pub framed : framing_of file ≡ Some (layout_of file)
unfolding file-computes
framed = refl

pub is-relisted : Relisted file turned (layout_of file)
unfolding file-computes records_in every
is-relisted = record {
  rest = headed-by file turned (layout_of file) refl refl refl;
  records = Permᴰ.trans (Permᴰ.swap refl refl) (Permᴰ.cons refl (Permᴰ.cons refl (Permᴰ.swap refl refl)));
}

-- what the promise says of it
pub turned_same : SameResult file turned
turned_same = another-order file turned (layout_of file) file-bytes framed is-relisted

-- so the counts, the text and the rows of the one file are those of the other
pub turned-answered : answer_of turned 140 ≡ Ok (record { points = 5; components = 2; rounds = 0 })
turned-answered = turned_same.answer 140 ∙ answered

pub turned-printed : text_of turned ≡ shown
turned-printed = turned_same.listing ∙ printed

pub turned_rows : rows_after turned (replicate 140 255) ≡ replicate 112 0 ++ 8 ∷ replicate 27 0
turned_rows = turned_same.rows (replicate 140 255) ∙ rows_left

-- ---- without "all else .. unchanged": the same records with another cell size

-- (0,0) and (1,0) 19 pixels apart
abbrev pub near : List Point
near = point 0 0 10 0 0 ∷ point 1 0 11 0x4198_0000 0 ∷ []

abbrev pub near_file : List ℕ
near_file = short_file 0x42C8_0000 near

abbrev pub zero_size_file : List ℕ
zero_size_file = short_file 0 near

pub near-framed : framing_of near_file ≡ Some (layout_of near_file)
unfolding file-computes
near-framed = refl

pub records-same : records_in near_file (layout_of near_file) ≡ records_in zero_size_file (layout_of near_file)
unfolding records_in file-computes
records-same = refl

-- with cell size 100 both are marked, with 0 neither
pub near-marks : marks_of settings near ≡ 4 ∷ 4 ∷ []
unfolding rules-compute
near-marks = refl

pub zero-size-marks : marks_of zero_size near ≡ 0 ∷ 0 ∷ []
unfolding rules-compute
zero-size-marks = refl

near-answered : answer_of near_file 56 ≡ Ok (record { points = 2; components = 0; rounds = 0 })
unfolding answer_of file-computes rules-compute
near-answered = refl

zero-size-answered : answer_of zero_size_file 56 ≡ Ok (record { points = 2; components = 1; rounds = 0 })
unfolding answer_of file-computes rules-compute
zero-size-answered = refl

not_same : SameResult near_file zero_size_file → ⊥
not_same r = let z : ◌≡◌ {A = ℕ} 1 0 = ap answered_components (sym zero-size-answered ∙ r.answer 56 ∙ near-answered) in omega arith

-- so the promise needs its condition on the rest of the file
pub rest-needed : ((file other : List ℕ) (f : Layout) → Bytes file → framing_of file ≡ Some f
    → Permᴰ (records_in file f) (records_in other f) → SameResult file other) → ⊥
rest-needed f =
    let l = layout_of near_file in
    not_same (f near_file zero_size_file l (bytes-by near_file refl) near-framed (rw (← records-same) (Permᴰ.refl (records_in near_file l))))
