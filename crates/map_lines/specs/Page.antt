-- For the code: what the keys of n cells span, and the page, most_lines lines of as many characters as there are columns. Assumes nothing.
use Rattle.std.specs.Prelude.{◌≡◌, List, [], ◌∷◌, ℕ, ◌+◌, ◌/◌, ◌%◌, ◌^◌, ◌≤◌, ◌<◌, ℤ, pos, ◌-ℤ◌, length, get_or}
use Rattle.cells.specs.Points.{bias, stride}
use Rattle.cells.specs.Cell.{Cell, cells_at}
use Rattle.map_lines.specs.Map.{columns, most_lines, smallest, span, cell_from, cell_character}
use Rattle.offsets.specs.declared.axis.Axis.{Axis}
use Rattle.offsets.specs.declared.axis.Axis.TheVariants.{AlongU, AlongV}
use Rattle.map_lines.specs.declared.spans.Span.{Span}

-- u or v of a cell, and of a key, where it stands with the bias added
abbrev pub along : Axis → Cell → ℤ
along AlongU c = c.u
along AlongV c = c.v

abbrev pub part : Axis → ℕ → ℕ
part AlongU key = key / stride
part AlongV key = key % stride

-- what n keys span along an axis: the smallest with the bias added, and how many values
pub record Spans (axis : Axis) (keys : List ℕ) (n : ℕ) (r : Span) : Type 0 where
  pub least-is : pos r.least -ℤ pos bias ≡ smallest (λ (k : ℕ). along axis (cells_at keys k)) n
  pub count-is : r.count ≡ span (λ (k : ℕ). along axis (cells_at keys k)) n
  pub small : r.least < 2 ^ 32
  pub inside : (k : ℕ) → k < n → (r.least ≤ part axis (get_or keys k 0)) × (part axis (get_or keys k 0) < r.least + r.count)

-- each key is that of a cell of the page whose first cell is (u, v), the bias added to both
pub record OnPage (keys : List ℕ) (n u v : ℕ) : Type 0 where
  pub in-columns : (k : ℕ) → k < n → (u ≤ get_or keys k 0 / stride) × (get_or keys k 0 / stride < u + columns)
  pub in_lines : (k : ℕ) → k < n → (v ≤ get_or keys k 0 % stride) × (get_or keys k 0 % stride < v + most_lines)

-- the page whose first cell is (u, v) shows n points
pub record Drawn (n : ℕ) (cell : ℕ → Cell) (marks : List ℕ) (u v : ℤ) (page : List (List ℕ)) : Type 0 where
  pub long : length page ≡ most_lines
  pub wide : (i : ℕ) → i < most_lines → length (get_or page i []) ≡ columns
  pub shows : (i j : ℕ) → i < most_lines → j < columns → (get_or (get_or page i []) j 0 ∷ []) ≡ cell_character n cell marks (cell_from u v i j)
