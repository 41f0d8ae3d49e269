-- The arrays give the view of points in cell order, and what is read of it. Assumes nothing.
use mathlib.Core.Path.{◌≡◌, refl, ap, ◌∙◌, fun_ext}
use mathlib.Core.Bool.{Bool, true}
use mathlib.Core.List.{List}
use Prim.Native.Nat.{ℕ, ◌+◌, ◌*◌, ◌/◌, ◌%◌, ◌≤◌, ◌<◌}
use native.Mathlib.Omega.{arith}
use lib.Dec.{eqb}
use lib.ListN.{length, get_or}
use lib.Ieee.{Float, nan}
use borrow.Author.Tests.{eq-eqb}
use Rattle.folds.specs.Arith.{f32}
use Rattle.folds.proofs.Below.{last-holds, some-yes}
use Rattle.folds.specs.Lists.{list_of}
use Rattle.folds.proofs.Lists.{list_at}
use Rattle.folds.proofs.Column.{column-list}
use Rattle.offsets.specs.declared.Offset.{Offset}
use Rattle.offsets.specs.Offsets.{is_near, place_of}
use Rattle.offsets.proofs.Places.{place-below, place-offset}
use Rattle.view.specs.View.{View, view_at, rank_at, max_points, ranks_size, rows_at, columns_at, indices_at, Ranked}
use Rattle.cells.specs.Points.{Point, nowhere, keys_of, indices_of, xs_of, ys_of}
use Rattle.cells.specs.Cell.{Cell, agree, cells_at, cells_of}
use Rattle.cells.proofs.Edges.{agree_same}
use Rattle.cells.proofs.Keys.{cells_are}
use Rattle.grid.specs.Tables.{neighbour_of, neighbour_entry, first_in_row, first_in_column, last_with_index, blocks, table_of, entry_in, ranks_of}
use Rattle.grid.specs.Views.{view_of}
use Rattle.grid.specs.InOrder.{CellOrder}
use Rattle.grid.proofs.Firsts.{first_below}
use Rattle.grid.proofs.Filled.{block_near, block_row, block-column, block-index, blocks-list, blocks-of}

-- ---- the table of ranks

-- it holds ranks
module _ (n : ℕ) (keys indices : List ℕ) (few : n ≤ max_points) where
  abbrev cell : ℕ → Cell
  cell = cells_at keys

  abbrev index : ℕ → ℕ
  index = entry_in indices

  pub held : (i : ℕ) → entry_in (ranks_of n keys indices) i ≡ table_of n cell index i
  unfolding ranks_of
  held = blocks-list n (neighbour_entry n cell) (first_in_row n cell) (first_in_column n cell) (last_with_index n index) few

  rows-below : (k : ℕ) → k < n → first_in_row n cell k < n
  unfolding first_in_row
  rows-below k h = first_below (λ (j : ℕ). agree (cell j).v (cell k).v) n k h (agree_same (cell k).v (cell k).v refl)

  columns-below : (k : ℕ) → k < n → first_in_column n cell k < n
  unfolding first_in_column
  columns-below k h = first_below (λ (j : ℕ). agree (cell j).u (cell k).u) n k h (agree_same (cell k).u (cell k).u refl)

  places-below : (k : ℕ) → k < n → last_with_index n index k < n
  unfolding last_with_index
  places-below k h = let p : ℕ → Bool = λ j. eqb (index j) (index k) in (last-holds p 0 n (some-yes p n k h (eq-eqb (index k) (index k) refl))).0

  pub ranks-ranked : Ranked n (ranks_of n keys indices)
  ranks-ranked = record {
    few = few;
    rows = λ k h. rw (held (rows_at + k), block_row n (neighbour_entry n cell) (first_in_row n cell) (first_in_column n cell) (last_with_index n index) few k h) (rows-below k h);
    columns = λ k h. rw (held (columns_at + k), block-column n (neighbour_entry n cell) (first_in_row n cell) (first_in_column n cell) (last_with_index n index) few k h) (columns-below k h);
    indices = λ k h. rw (held (indices_at + k), block-index n (neighbour_entry n cell) (first_in_row n cell) (first_in_column n cell) (last_with_index n index) k h) (places-below k h);
  }

-- ---- the view

-- views are the same where their parts are
same_view : (n : ℕ) {a a' b b' c c' d d' : ℕ → ℕ} {e e' f f' : ℕ → Float} → a ≡ a' → b ≡ b' → c ≡ c' → d ≡ d' → e ≡ e' → f ≡ f'
    → ◌≡◌ {A = View} (record { count = n; near = a; row = b; column = c; by_idx = d; x = e; y = f }) (record { count = n; near = a'; row = b'; column = c'; by_idx = d'; x = e'; y = f' })
same_view n p q r s t u = rw (p, q, r, s, t, u)

module _ (ps : List Point) where
  abbrev n : ℕ
  n = length ps

  -- one number of each point
  abbrev pub index_list : List ℕ
  index_list = list_of n (λ (k : ℕ). (get_or ps k nowhere).index)

  indices-are : entry_in (indices_of ps) ≡ entry_in index_list
  unfolding indices_of
  indices-are = fun_ext (column-list max_points 0 n (λ (k : ℕ). (get_or ps k nowhere).index))

  -- the table of ranks, as the view has it
  abbrev near_of : ℕ → ℕ
  near_of = entry_in (list_of (25 * n) (neighbour_entry n (cells_of ps)))

  abbrev row_of : ℕ → ℕ
  row_of = entry_in (list_of n (first_in_row n (cells_of ps)))

  abbrev column_of : ℕ → ℕ
  column_of = entry_in (list_of n (first_in_column n (cells_of ps)))

  abbrev index_of : ℕ → ℕ
  index_of = entry_in (list_of n (last_with_index n (entry_in index_list)))

  module _ (o : CellOrder ps) where
    ranks-are : (i : ℕ) → entry_in (ranks_of n (keys_of ps) (indices_of ps)) i ≡ blocks n near_of row_of column_of index_of i
    unfolding ranks_of
    ranks-are i =
        ap (λ (cell : ℕ → Cell). entry_in (list_of ranks_size (table_of n cell (entry_in (indices_of ps)))) i) (cells_are ps o.inside)
        ∙ ap (λ (index : ℕ → ℕ). entry_in (list_of ranks_size (table_of n (cells_of ps) index)) i) indices-are
        ∙ blocks-list n (neighbour_entry n (cells_of ps)) (first_in_row n (cells_of ps)) (first_in_column n (cells_of ps)) (last_with_index n (entry_in index_list)) o.few i
        ∙ blocks-of n (neighbour_entry n (cells_of ps)) (first_in_row n (cells_of ps)) (first_in_column n (cells_of ps)) (last_with_index n (entry_in index_list)) i

    -- the arrays give the view
    pub view-is : view_at n (ranks_of n (keys_of ps) (indices_of ps)) (xs_of ps) (ys_of ps) ≡ view_of ps
    unfolding view_of xs_of ys_of
    view-is =
        same_view n (fun_ext ranks-are) (fun_ext (λ k. ranks-are (rows_at + k))) (fun_ext (λ k. ranks-are (columns_at + k))) (fun_ext (λ k. ranks-are (indices_at + k)))
        (fun_ext (λ k. column-list max_points nan n (λ (k : ℕ). f32 (get_or ps k nowhere).x) k)) (fun_ext (λ k. column-list max_points nan n (λ (k : ℕ). f32 (get_or ps k nowhere).y) k))

  -- what is read of it at a rank
  pub index_read : (k : ℕ) → k < n → (view_of ps).by_idx k ≡ last_with_index n (entry_in index_list) k
  unfolding view_of
  index_read k h = block-index n near_of row_of column_of index_of k h ∙ list_at n (last_with_index n (entry_in index_list)) k 0 h

  module _ (few : n ≤ max_points) where
    near-entry : (k : ℕ) (o : Offset) → is_near o ≡ true → neighbour_entry n (cells_of ps) (25 * k + place_of o) ≡ neighbour_of n (cells_of ps) k o
    near-entry k o l =
        let m = place-below o l in
        let a : (25 * k + place_of o) / 25 ≡ k = omega (arith, m) in
        let b : (25 * k + place_of o) % 25 ≡ place_of o = omega (arith, m) in
        rw (a, b) (ap (neighbour_of n (cells_of ps) k) (place-offset o l))

    pub near-read : (k : ℕ) (o : Offset) → k < n → is_near o ≡ true → rank_at (view_of ps) k o ≡ neighbour_of n (cells_of ps) k o
    unfolding view_of
    near-read k o h l =
        let d = place_of o in
        let m = place-below o l in
        block_near n near_of row_of column_of index_of few (25 * k + d) (omega (arith, m)) ∙ list_at (25 * n) (neighbour_entry n (cells_of ps)) (25 * k + d) 0 (omega (arith, m)) ∙ near-entry k o l

    pub row_read : (k : ℕ) → k < n → (view_of ps).row k ≡ first_in_row n (cells_of ps) k
    unfolding view_of
    row_read k h = block_row n near_of row_of column_of index_of few k h ∙ list_at n (first_in_row n (cells_of ps)) k 0 h

    pub column-read : (k : ℕ) → k < n → (view_of ps).column k ≡ first_in_column n (cells_of ps) k
    unfolding view_of
    column-read k h = block-column n near_of row_of column_of index_of few k h ∙ list_at n (first_in_column n (cells_of ps)) k 0 h
