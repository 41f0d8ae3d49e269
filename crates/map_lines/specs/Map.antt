-- "A map on one page": its text, of n points in cell order with their cells and bytes of marks. Assumes nothing.
use Rattle.std.specs.Prelude.{Bool, cond, ◌||◌, List, ◌++◌, ℕ, ◌+◌, ◌*◌, eqb, ltb, ℤ, pos, nat_abs, ◌+ℤ◌, ◌-ℤ◌, get_or}
use Rattle.std.specs.Int.Signed.{lt_z}
use Rattle.folds.specs.Below.{fold}
use Rattle.cells.specs.Cell.{Cell, coincide}
use Rattle.marks.specs.Filters.{filter_at, filter_count}
use Rattle.marks.specs.Byte.{first_mark}
use Rattle.text.specs.Text.{bytes, each, whole, right_aligned}

-- "v right-aligned in 6"
abbrev pub label_width : ℕ
label_width = 6

-- "72 cell characters"
abbrev pub columns : ℕ
columns = 72

-- "Each line is 80 characters": v, a space, the cells, a space
abbrev pub line_length : ℕ
line_length = label_width + 1 + columns + 1

-- "60 of v"
abbrev pub most_lines : ℕ
most_lines = 60

-- no map is longer, with a newline after each line (proved in proofs/Size.antt)
abbrev pub map_size : ℕ
map_size = (line_length + 1) * most_lines

-- ---- what the points span

-- the smallest and the largest of z 0, .., z (n - 1); z 0 where n is 0
unfoldable pub smallest : (ℕ → ℤ) → ℕ → ℤ
unfolding fold
smallest z n = fold (λ k a. cond (lt_z (z k) a) (z k) a) (z 0) n

unfoldable pub largest : (ℕ → ℤ) → ℕ → ℤ
unfolding fold
largest z n = fold (λ k a. cond (lt_z a (z k)) (z k) a) (z 0) n

-- how many values they span, from the smallest to the largest; no points span none
unfoldable pub span : (ℕ → ℤ) → ℕ → ℕ
unfolding smallest largest
span z n = cond (eqb n 0) 0 (nat_abs (largest z n -ℤ smallest z n) + 1)

module _ (n : ℕ) (cell : ℕ → Cell) where
  abbrev pub smallest_u : ℤ
  smallest_u = smallest (λ (k : ℕ). (cell k).u) n

  abbrev pub smallest_v : ℤ
  smallest_v = smallest (λ (k : ℕ). (cell k).v) n

  abbrev pub span_u : ℕ
  span_u = span (λ (k : ℕ). (cell k).u) n

  abbrev pub span_v : ℕ
  span_v = span (λ (k : ℕ). (cell k).v) n

  -- "points that span more than 72 values of u or 60 of v"
  abbrev pub too_wide : Bool
  too_wide = ltb columns span_u || ltb most_lines span_v

-- ---- where a cell stands

-- the cell of line i and column j, where the first line and column are those of (u, v)
abbrev pub cell_from : ℤ → ℤ → ℕ → ℕ → Cell
cell_from u v i j = record { u = u +ℤ pos j; v = v +ℤ pos i }

-- on the map of n cells: "Lines run from the smallest v .., cells from the smallest u"
abbrev pub cell_in : ℕ → (ℕ → Cell) → ℕ → ℕ → Cell
cell_in n cell = cell_from (smallest_u n cell) (smallest_v n cell)

-- the place of its byte in the text: each line has its newline, and v and a space before its first cell
abbrev pub place_in_text : ℕ → ℕ → ℕ
place_in_text i j = (line_length + 1) * i + (label_width + 1 + j)

-- ---- the text

-- "# a kept one, else the letter of the first filter"
abbrev pub point_character : ℕ → List ℕ
point_character marks = cond (ltb (first_mark marks) filter_count) (bytes (filter_at (first_mark marks)).letter) (bytes "#")

-- "a full stop is no point": the character of the cell c
unfoldable pub cell_character : ℕ → (ℕ → Cell) → List ℕ → Cell → List ℕ
unfolding fold first_mark
cell_character n cell marks c = fold (λ k t. cond (coincide (cell k) c) (point_character (get_or marks k 0)) t) (bytes ".") n

-- "Each line is 80 characters: v right-aligned in 6, a space, 72 cell characters, a space."
abbrev pub line_of : ℤ → List ℕ → List ℕ
line_of v characters = right_aligned label_width (whole v) ++ bytes " " ++ characters ++ bytes " "

-- every line ends in a newline
unfoldable pub line_text : ℤ → List ℕ → List ℕ
unfolding right_aligned whole
line_text v characters = line_of v characters ++ bytes "\n"

-- lines, the first of them that of v
unfoldable pub lines_from : ℤ → (ℕ → List ℕ) → ℕ → List ℕ
unfolding each line_text
lines_from v characters count = each (λ i. line_text (v +ℤ pos i) (characters i)) count

module _ (n : ℕ) (cell : ℕ → Cell) (marks : List ℕ) where
  -- the cell characters of line i: "cells from the smallest u"
  unfoldable pub line_characters : ℕ → List ℕ
  unfolding each smallest cell_character
  line_characters i = each (λ j. cell_character n cell marks (cell_in n cell i j)) columns

  -- "Lines run from the smallest v to the largest"; "No points give no lines."
  unfoldable pub map_of : List ℕ
  unfolding smallest span lines_from line_characters
  map_of = lines_from (smallest_v n cell) line_characters (span_v n cell)
