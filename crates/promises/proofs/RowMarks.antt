-- The first byte of each row is the point's marks. Assumes nothing.
use mathlib.Core.Path.{◌≡◌, refl, sym, ap, ◌∙◌}
use mathlib.Core.Bool.{◌&&◌}
use mathlib.Core.List.{List}
use Prim.Native.Nat.{ℕ, ◌+◌, ◌*◌, ◌<◌}
use native.Mathlib.Omega.{arith}
use lib.Dec.{eqb, ltb}
use borrow.Author.Tests.{ltb-true}
use lib.ListN.{length, get_or}
use Rattle.folds.proofs.Below.{and-under}
use Rattle.cells.specs.Points.{Point}
use Rattle.sheet_file.specs.declared.Settings.{Settings}
use Rattle.ruling.specs.Ruling.{Ruling, accepted, ruling_of}
use Rattle.judged.specs.Shown.{shown_at}
use Rattle.judging.specs.Judging.{judged_for}
use Rattle.rows.specs.Rows.{row_of, row_size, rows_over}
use Rattle.rows.proofs.Theorems.{byte-shown}
use Rattle.kept.specs.Answer.{rows_by, rows_after}
use Rattle.promises.specs.Words.{marks_in, kept_rank, marks_shown, marks_byte}

first_byte : (s : Settings) (ps : List Point) (k : ℕ) → get_or (row_of (shown_at (judged_for s ps) k)) 0 0 ≡ marks_in s ps k
unfolding row_of shown_at
first_byte s ps k = refl

module _ (buffer : List ℕ) (s : Settings) (ps : List Point) where
  -- "Byte 0: marks": of row k
  pub marks-are-shown : (k : ℕ) → k < length ps → marks_shown (rows_by buffer (accepted s ps)) k ≡ marks_in s ps k
  marks-are-shown k h =
      let z : row_size * k ≡ row_size * k + 0 = omega arith in
      ap (λ (i : ℕ). get_or (rows_over (length ps) (shown_at (judged_for s ps)) buffer) i 0) z
      ∙ byte-shown (shown_at (judged_for s ps)) (length ps) buffer k 0 h (omega arith)
      ∙ first_byte s ps k

  -- "On any accepted sheet the kept patch is the points whose row has no mark."
  pub kept-rows : (k : ℕ) → kept_rank s ps k ≡ ltb k (length ps) && eqb (marks_shown (rows_by buffer (accepted s ps)) k) 0
  kept-rows k = and-under (ltb k (length ps)) (λ l. ap (λ (b : ℕ). eqb b 0) (sym (marks-are-shown k (ltb-true k (length ps) l))))

-- of an accepted file's row k
pub row-marks : (file buffer : List ℕ) (s : Settings) (ps : List Point) → ruling_of file (length buffer) ≡ accepted s ps → (k : ℕ) → k < length ps
    → marks_byte file buffer k ≡ marks_in s ps k
unfolding rows_after
row-marks file buffer s ps e k h = ap (λ (r : Ruling). marks_shown (rows_by buffer r) k) e ∙ marks-are-shown buffer s ps k h
