-- The table of ranks of a sheet, by the cells and the indices of its points; a point's rank is its place in cell order. Assumes nothing.
use Rattle.std.specs.Prelude.{◌≡◌, cond, ◌&&◌, List, ℕ, ◌+◌, ◌-◌, ◌*◌, ◌/◌, ◌%◌, ◌≤◌, ◌<◌, eqb, leb, ltb, length, get_or}
use Rattle.folds.specs.Below.{first, last}
use Rattle.folds.specs.Lists.{list_of}
use Rattle.offsets.specs.declared.Offset.{Offset}
use Rattle.offsets.specs.Offsets.{offset_of}
use Rattle.view.specs.View.{max_points, ranks_size, rows_at, columns_at, indices_at}
use Rattle.cells.specs.Cell.{Cell, CellInRange, agree, coincide, offset_by, cells_at}

-- ---- what it holds of rank k of n

-- the rank at offset o: the first whose cell is k's moved by it; n where there is none
unfoldable pub neighbour_of : ℕ → (ℕ → Cell) → ℕ → Offset → ℕ
unfolding first
neighbour_of n cell k o = first (λ (j : ℕ). coincide (cell j) (offset_by o (cell k))) 0 n

-- "Rows and columns": a row has one v, a column one u. The first rank of k's row:
unfoldable pub first_in_row : ℕ → (ℕ → Cell) → ℕ → ℕ
unfolding first
first_in_row n cell k = first (λ (j : ℕ). agree (cell j).v (cell k).v) 0 n

-- the first rank of k's column
unfoldable pub first_in_column : ℕ → (ℕ → Cell) → ℕ → ℕ
unfolding first
first_in_column n cell k = first (λ (j : ℕ). agree (cell j).u (cell k).u) 0 n

-- "For a repeated index the larger cell's entry wins": the last rank with k's index
unfoldable pub last_with_index : ℕ → (ℕ → ℕ) → ℕ → ℕ
unfolding last
last_with_index n index k = last (λ (j : ℕ). eqb (index j) (index k)) 0 n

-- ---- where it holds that

-- the neighbours of all ranks, 25 for each: those at all offsets within 2, each at its offset's place
abbrev pub neighbour_entry : ℕ → (ℕ → Cell) → ℕ → ℕ
neighbour_entry n cell i = neighbour_of n cell (i / 25) (offset_of (i % 25))

-- from place `from` on the n entries f 0, f 1, ..; elsewhere what `rest` has
abbrev pub splice : ℕ → ℕ → (ℕ → ℕ) → (ℕ → ℕ) → ℕ → ℕ
splice from n f rest i = cond (leb from i && ltb i (from + n)) (f (i - from)) (rest i)

-- the four blocks of a table, by place
abbrev pub blocks : ℕ → (ℕ → ℕ) → (ℕ → ℕ) → (ℕ → ℕ) → (ℕ → ℕ) → ℕ → ℕ
blocks n near row column index =
    splice indices_at n index (splice columns_at n column (splice rows_at n row (splice 0 (25 * n) near (λ (i : ℕ). 0))))

-- the table of n ranks, by place
abbrev pub table_of : ℕ → (ℕ → Cell) → (ℕ → ℕ) → ℕ → ℕ
table_of n cell index = blocks n (neighbour_entry n cell) (first_in_row n cell) (first_in_column n cell) (last_with_index n index)

-- ---- as arrays

-- what an array of numbers holds at a place, and 0 past its end
abbrev pub entry_in : List ℕ → ℕ → ℕ
entry_in l k = get_or l k 0

-- an array l with n entries put in
unfoldable pub spliced : ℕ → ℕ → (ℕ → ℕ) → List ℕ → List ℕ
unfolding list_of
spliced from n f l = list_of (length l) (splice from n f (entry_in l))

-- the table of ranks, from the arrays of n keys and indices
unfoldable pub ranks_of : ℕ → List ℕ → List ℕ → List ℕ
unfolding list_of
ranks_of n keys indices = list_of ranks_size (table_of n (cells_at keys) (entry_in indices))

-- what the code asks of its keys: the first n rise, and are those of cells in range
pub record Keys (keys : List ℕ) (n : ℕ) : Type 0 where
  pub size : length keys ≡ max_points
  pub few : n ≤ max_points
  pub rising : (i j : ℕ) → i < j → j < n → entry_in keys i < entry_in keys j
  pub in-range : (k : ℕ) → k < n → CellInRange (cells_at keys k)
