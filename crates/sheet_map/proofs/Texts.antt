-- What is printed by the ruling: `refused` and the number, or a map; which of them, is seen from the text. Assumes nothing.
use mathlib.Core.Path.{◌≡◌, refl, sym, ap, ◌∙◌}
use mathlib.Core.List.{List, ◌++◌}
use Prim.Native.Nat.{ℕ}
use native.Mathlib.Omega.{arith}
use lib.ListN.{length, take, drop, length-append}
use lib.Seq.{take-append_seam}
use Rattle.cells.specs.Points.{Point}
use Rattle.cells.specs.Cell.{cells_of}
use Rattle.sheet_file.specs.Bytes.{Bytes}
use Rattle.sheet_file.specs.declared.Settings.{Settings}
use Rattle.ruling.specs.Ruling.{Ruling, refused, accepted}
use Rattle.judging.specs.Judging.{judged_for}
use Rattle.text.specs.Text.{bytes, decimal, refusal_of}
use Rattle.text.proofs.Numbers.{read, decimal_value, decimal-reads}
use Rattle.map_lines.proofs.Start.{not-a-refusal}
use Rattle.sheet_map.specs.Text.{map_ruling_of, map_by, map_text_of}
use Rattle.sheet_map.proofs.Laws.{text-is, is-drawn}
use Rattle.sheet_map.proofs.Whole.{v-within}

-- the text of a refusal has one number
one_number : (j k : ℕ) → refusal_of j ≡ refusal_of k → j ≡ k
unfolding refusal_of
one_number j k e =
    let newline = bytes "\n" in
    let rest : decimal j ++ newline ≡ decimal k ++ newline = ap (drop 8) e in
    let long : length (decimal j) ≡ length (decimal k) = omega (arith, length-append (decimal j) newline, length-append (decimal k) newline, ap length rest) in
    let same : decimal j ≡ decimal k = sym (take-append_seam (decimal j) newline) ∙ ap (λ (n : ℕ). take n (decimal j ++ newline)) long ∙ ap (take (length (decimal k))) rest ∙ take-append_seam (decimal k) newline in
    sym (decimal-reads j) ∙ ap (read 10 decimal_value) same ∙ decimal-reads k

pub number-printed : (file : List ℕ) (k : ℕ) → map_ruling_of file ≡ refused k → map_text_of file ≡ refusal_of k
number-printed file k e = text-is file ∙ ap map_by e

module _ (file : List ℕ) (b : Bytes file) where
  -- a map that is drawn is no refusal
  pub drawn-printed : (s : Settings) (ps : List Point) → map_ruling_of file ≡ accepted s ps → (k : ℕ) → map_text_of file ≡ refusal_of k → ⊥
  drawn-printed s ps e k q = not-a-refusal (length ps) (cells_of ps) (judged_for s ps).marks (v-within file b s ps (is-drawn file s ps e).ruled) k (sym (text-is file ∙ ap map_by e) ∙ q)

  -- a refusal is printed of its own number alone
  pub number_read : (k : ℕ) → map_text_of file ≡ refusal_of k → map_ruling_of file ≡ refused k
  number_read k q = go (map_ruling_of file) refl
    where
      go : (x : Ruling) → map_ruling_of file ≡ x → map_ruling_of file ≡ refused k
      go (refused j) e = e ∙ ap refused (one_number j k (sym (number-printed file j e) ∙ q))
      go (accepted s ps) e = absurd (drawn-printed s ps e k q)
