-- The view of points in cell order. Assumes nothing.
use Rattle.std.specs.Prelude.{List, ℕ, ◌+◌, ◌*◌, length, get_or}
use Rattle.std.specs.Float.{nan}
use Rattle.std.specs.Float.Ieee.{of_bits}
use Rattle.folds.specs.Arith.{f32}
use Rattle.folds.specs.Lists.{list_of}
use Rattle.view.specs.View.{View, rows_at, columns_at, indices_at}
use Rattle.cells.specs.Points.{Point, nowhere}
use Rattle.cells.specs.Cell.{cells_of}
use Rattle.grid.specs.Tables.{neighbour_of, neighbour_entry, first_in_row, first_in_column, last_with_index, blocks, entry_in}

-- what the filters see of the points ps, which stand in cell order: the blocks of the table of ranks, and the positions
unfoldable pub view_of : List Point → View
unfolding list_of cells_of neighbour_of first_in_row first_in_column last_with_index of_bits
view_of ps =
    let n = length ps in
    let cell = cells_of ps in
    let indices = list_of n (λ (k : ℕ). (get_or ps k nowhere).index) in
    let near = list_of (25 * n) (neighbour_entry n cell) in
    let rows = list_of n (first_in_row n cell) in
    let columns = list_of n (first_in_column n cell) in
    let places = list_of n (last_with_index n (entry_in indices)) in
    let xs = list_of n (λ (k : ℕ). f32 (get_or ps k nowhere).x) in
    let ys = list_of n (λ (k : ℕ). f32 (get_or ps k nowhere).y) in
    let table = blocks n (entry_in near) (entry_in rows) (entry_in columns) (entry_in places) in
    record {
      count = n;
      near = table;
      row = λ (k : ℕ). table (rows_at + k);
      column = λ (k : ℕ). table (columns_at + k);
      by_idx = λ (k : ℕ). table (indices_at + k);
      x = λ (k : ℕ). get_or xs k nan;
      y = λ (k : ℕ). get_or ys k nan;
    }
