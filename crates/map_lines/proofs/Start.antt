-- How the text of a map starts: with a space, so that no map is a refusal. Assumes nothing.
use mathlib.Core.Path.{◌≡◌, refl, sym, ap, ◌∙◌}
use mathlib.Core.Bool.{true}
use mathlib.Core.List.{List, ◌++◌}
use Prim.{yes, no}
use Prim.Native.Nat.{ℕ, ◌+◌, ◌-◌, ◌≤◌, ◌<◌}
use native.Mathlib.Decide.{dec_lt}
use native.Mathlib.Omega.{arith}
use lib.IntN.{pos, ◌+ℤ◌}
use lib.ListN.{length, get_or, length-append, get_or-append}
use Rattle.cells.specs.Cell.{Cell, within}
use Rattle.text.specs.Text.{bytes, whole, spaces, right_aligned, refusal_of}
use Rattle.text.proofs.Stores.{each_long, right-length}
use Rattle.map_lines.specs.Map.{label_width, line_length, smallest_v, span_v, line_characters, map_of}
use Rattle.map_lines.proofs.Extremes.{line-within}
use Rattle.map_lines.proofs.Size.{whole-short, line_at, map_is, line-size, line-whole, map-length}
use Rattle.map_lines.proofs.Places.{each_at, margin-wide}

-- a text shorter than the width has a space before it
right-first : (width : ℕ) (t : List ℕ) → length t < width → get_or (right_aligned width t) 0 0 ≡ 32
unfolding right_aligned spaces
right-first width t l =
    let count = width - length t in
    let space : ℕ → List ℕ = λ k. bytes " " in
    get_or-append (spaces count) t 0 0 (omega (arith, each_long space 1 count (λ k g. refl)))
    ∙ each_at space 1 count (λ k g. refl) 0 0 (omega arith) (omega arith)

refusal-some : (k : ℕ) → 1 ≤ length (refusal_of k)
unfolding refusal_of
refusal-some k = simp length-append (omega arith)

pub refusal-first : (k : ℕ) → get_or (refusal_of k) 0 0 ≡ 114
unfolding refusal_of
refusal-first k = refl

module _ (n : ℕ) (cell : ℕ → Cell) (marks : List ℕ) (inside : (k : ℕ) → k < n → within (cell k).v ≡ true) where
  -- a map that has a line starts with a space
  pub first-space : 0 < span_v n cell → get_or (map_of n cell marks) 0 0 ≡ 32
  first-space l =
      let v = smallest_v n cell +ℤ pos 0 in
      let label = right_aligned label_width (whole v) in
      let characters = line_characters n cell marks 0 in
      let short = whole-short v (line-within (λ (k : ℕ). (cell k).v) n inside 0 l) in
      let margin = margin-wide n cell marks inside 0 l in
      ap (λ (t : List ℕ). get_or t 0 0) (map_is n cell marks)
      ∙ each_at (λ i. line_at n cell marks i ++ bytes "\n") (line_length + 1) (span_v n cell) (line-whole n cell marks inside) 0 0 l (omega arith)
      ∙ get_or-append (line_at n cell marks 0) (bytes "\n") 0 0 (omega (arith, line-size n cell marks inside 0 l))
      ∙ get_or-append (label ++ bytes " " ++ characters) (bytes " ") 0 0 (omega (arith, length-append (label ++ bytes " ") characters, margin))
      ∙ get_or-append (label ++ bytes " ") characters 0 0 (omega (arith, margin))
      ∙ get_or-append label (bytes " ") 0 0 (omega (arith, right-length label_width (whole v) (omega (arith, short))))
      ∙ right-first label_width (whole v) (omega (arith, short))

  -- so no map is a refusal, nor is the empty one
  pub not-a-refusal : (k : ℕ) → map_of n cell marks ≡ refusal_of k → ⊥
  not-a-refusal k e =
      elim (dec_lt 0 (span_v n cell)) [
        | yes l ↦ (let z : ◌≡◌ {A = ℕ} 32 114 = sym (first-space l) ∙ ap (λ (t : List ℕ). get_or t 0 0) e ∙ refusal-first k in omega arith)
        | no f ↦ omega (arith, f, map-length n cell marks inside, ap length e, refusal-some k)
      ]
