-- Where the points of a sheet whose map is drawn stand on it, and which are kept. Assumes nothing.
use mathlib.Core.Path.{◌≡◌, sym, ap, ◌∙◌}
use mathlib.Core.Bool.{true, not, true≢false}
use mathlib.Core.List.{List}
use Prim.{Dec, yes, no}
use Prim.Native.Nat.{ℕ, ◌<◌}
use native.Mathlib.Decide.{dec_lt}
use native.Mathlib.Omega.{arith}
use borrow.Author.Tests.{lt-ltb, eqb-true}
use lib.Dec.{eqb, ltb}
use lib.ListN.{length, get_or}
use Rattle.folds.specs.Below.{some}
use Rattle.folds.proofs.Below.{some-no}
use Rattle.cells.specs.Points.{Point, nowhere, strengths_of}
use Rattle.cells.specs.Cell.{Cell, cell_of, cells_of, before}
use Rattle.cells.proofs.Keys.{cell_at}
use Rattle.grid.specs.Views.{view_of}
use Rattle.grid.specs.InOrder.{CellOrder}
use Rattle.sheet_file.specs.declared.Settings.{Settings}
use Rattle.marks.specs.Filters.{filter_count}
use Rattle.marks.specs.Byte.{has_mark, first_mark}
use Rattle.judging.specs.Judging.{judged_for}
use Rattle.text.specs.Text.{bytes}
use Rattle.map_lines.specs.Map.{point_character}
use Rattle.map_lines.proofs.Characters.{kept-only}
use Rattle.promises.specs.Words.{marks_in, kept_rank}
use Rattle.promises.proofs.Bits.{none-marked}
use Rattle.std.proofs.lemmas.Bool.{and_from, and_parts}
use Rattle.cells.proofs.Edges.{not-below-itself}

-- no cell comes before itself
not-before : (c : Cell) → before c c ≡ true → ⊥
not-before c e = true≢false (sym e ∙ rw (not-below-itself c.u, not-below-itself c.v))

-- points in cell order have cells of their own
pub cells-apart : (ps : List Point) → CellOrder ps → (j k : ℕ) → j < length ps → k < length ps → cells_of ps j ≡ cells_of ps k → j ≡ k
cells-apart ps o j k hj hk e = go (dec_lt j k) (dec_lt k j)
  where
    cell : ℕ → Cell
    cell i = cell_of (get_or ps i nowhere)

    same : cell j ≡ cell k
    same = sym (cell_at ps j hj) ∙ e ∙ cell_at ps k hk

    go : Dec (j < k) → Dec (k < j) → j ≡ k
    go (yes l) d = absurd (not-before (cell k) (ap (λ (c : Cell). before c (cell k)) (sym same) ∙ o.rising j k l hk))
    go (no f) (yes l) = absurd (not-before (cell k) (ap (before (cell k)) (sym same) ∙ o.rising k j l hj))
    go (no f) (no g) = omega (arith, f, g)

module _ (s : Settings) (ps : List Point) (k : ℕ) where
  pub kept-shown : kept_rank s ps k ≡ true → point_character (marks_in s ps k) ≡ bytes "#"
  unfolding first_mark
  kept-shown e = ap point_character (eqb-true (marks_in s ps k) 0 (and_parts (ltb k (length ps)) (eqb (marks_in s ps k) 0) e).1)

  none_in : k < length ps → eqb (marks_in s ps k) 0 ≡ not (some (λ (f : ℕ). has_mark f (marks_in s ps k)) filter_count)
  unfolding judged_for view_of
  none_in h = none-marked s (view_of ps) (cells_of ps) (strengths_of ps) k h

  pub only-kept-shown : k < length ps → point_character (marks_in s ps k) ≡ bytes "#" → kept_rank s ps k ≡ true
  only-kept-shown h e =
      and_from (ltb k (length ps)) (eqb (marks_in s ps k) 0) (lt-ltb k (length ps) h)
      (none_in h ∙ ap not (some-no (λ (f : ℕ). has_mark f (marks_in s ps k)) filter_count (kept-only (marks_in s ps k) e)))
