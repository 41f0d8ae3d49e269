-- Of two accepted files, the points of the one moved by an offset and their marks those of the other: the maps. Assumes nothing.
use mathlib.Core.Path.{◌≡◌, refl, sym, ap, ◌∙◌}
use mathlib.Core.Bool.{Bool, true, false}
use mathlib.Core.List.{List, []}
use mathlib.Core.Logic.{◌⊎◌, inl, inr}
use Prim.{Dec, yes, no}
use Prim.Native.Nat.{ℕ, ◌<◌}
use native.Mathlib.Decide.{ℕ_discrete}
use native.Mathlib.Omega.{arith}
use lib.IntN.{ℤ, pos, ◌+ℤ◌}
use lib.ListN.{length, get_or}
use Rattle.cells.specs.Points.{Point, nowhere}
use Rattle.cells.specs.Cell.{cells_of}
use Rattle.grid.specs.Moved.{Moved}
use Rattle.sheet_file.specs.declared.Settings.{Settings}
use Rattle.ruling.specs.Ruling.{refused, accepted, ruling_of, rows_size}
use Rattle.judging.specs.Judging.{judged_for}
use Rattle.map_lines.specs.Map.{too_wide, smallest_v, span_v, line_characters, map_of}
use Rattle.map_lines.proofs.Size.{characters-long}
use Rattle.map_lines.proofs.Moved.{map-lines, no_lines, no-points, wide-moved, map-moved}
use Rattle.sheet_map.specs.Text.{map_ruling_of, map_by, map_text_of}
use Rattle.sheet_map.proofs.Laws.{text-is, ten-given, none-given, ten-wide}
use Rattle.promises.specs.Words.{marks_in}
use Rattle.promises.specs.Map.{BothRefused, LinesMoved}
use Rattle.grid.proofs.Moved.{cells-moved}

-- the text of a map that is drawn
pub drawn-text : (file : List ℕ) (s : Settings) (ps : List Point) → ruling_of file rows_size ≡ accepted s ps → too_wide (length ps) (cells_of ps) ≡ false
    → map_text_of file ≡ map_of (length ps) (cells_of ps) (judged_for s ps).marks
drawn-text file s ps e w = text-is file ∙ ap map_by (none-given file s ps e w)

module _ (file other : List ℕ) (a b : ℤ) (s : Settings) (ps qs : List Point) (e : ruling_of file rows_size ≡ accepted s ps) (f : ruling_of other rows_size ≡ accepted s qs)
    (size : length qs ≡ length ps) (all : (k : ℕ) → k < length ps → Moved a b (get_or ps k nowhere) (get_or qs k nowhere)) where
  abbrev n : ℕ
  n = length ps

  wide-stays : too_wide (length qs) (cells_of qs) ≡ too_wide n (cells_of ps)
  wide-stays = ap (λ (m : ℕ). too_wide m (cells_of qs)) size ∙ wide-moved a b n (cells_of ps) (cells_of qs) (cells-moved a b ps qs size all)

  pub ten-moved : map_ruling_of file ≡ refused 10 → map_ruling_of other ≡ refused 10
  ten-moved q = ten-given other s qs f (wide-stays ∙ ten-wide file s ps e q)

  pub ten-before : map_ruling_of other ≡ refused 10 → map_ruling_of file ≡ refused 10
  ten-before q = ten-given file s ps e (sym wide-stays ∙ ten-wide other s qs f q)

  module _ (same : (k : ℕ) → marks_in s qs k ≡ marks_in s ps k) where
    abbrev marks : List ℕ
    marks = (judged_for s ps).marks

    abbrev more : List ℕ
    more = (judged_for s qs).marks

    lines : too_wide n (cells_of ps) ≡ false → Dec (n ≡ 0) → LinesMoved file other b
    lines w (yes z) = record {
      first = pos 0;
      characters = λ i. [];
      count = 0;
      long = λ i l. absurd (omega arith);
      old = drawn-text file s ps e w ∙ ap (λ (m : ℕ). map_of m (cells_of ps) marks) z ∙ no-points (cells_of ps) marks ∙ sym (no_lines (pos 0) (λ i. []));
      new =
          drawn-text other s qs f (wide-stays ∙ w) ∙ ap (λ (m : ℕ). map_of m (cells_of qs) more) (size ∙ z) ∙ no-points (cells_of qs) more
          ∙ sym (no_lines (pos 0 +ℤ b) (λ i. []));
    }
    lines w (no z) = record {
      first = smallest_v n (cells_of ps);
      characters = line_characters n (cells_of ps) marks;
      count = span_v n (cells_of ps);
      long = λ i l. characters-long n (cells_of ps) marks i;
      old = drawn-text file s ps e w ∙ map-lines n (cells_of ps) marks;
      new =
          drawn-text other s qs f (wide-stays ∙ w) ∙ ap (λ (m : ℕ). map_of m (cells_of qs) more) size
          ∙ map-moved a b n (cells_of ps) (cells_of qs) (cells-moved a b ps qs size all) (omega (arith, z)) marks more (λ k l. same k);
    }

    pub map-stays : BothRefused file other ⊎ LinesMoved file other b
    map-stays = go (too_wide n (cells_of ps)) refl
      where
        go : (t : Bool) → too_wide n (cells_of ps) ≡ t → BothRefused file other ⊎ LinesMoved file other b
        go true w = inl (record { old = ten-given file s ps e w; new = ten-given other s qs f (wide-stays ∙ w) })
        go false w = inr (lines w (ℕ_discrete n 0))
