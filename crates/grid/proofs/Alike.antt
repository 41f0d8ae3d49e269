-- Two ranks have one entry for their row just where their cells have one v; so for columns and u, and for indices. Assumes nothing.
use mathlib.Core.Path.{◌≡◌, refl, sym, ap, ◌∙◌}
use mathlib.Core.Bool.{Bool, true}
use mathlib.Core.List.{List}
use Prim.Native.Nat.{ℕ, ◌≤◌, ◌<◌}
use lib.Dec.{eqb}
use lib.IntN.{ℤ}
use lib.ListN.{length, get_or}
use borrow.Author.Tests.{eq-eqb, eqb-true}
use Rattle.folds.specs.Below.{first, last}
use Rattle.folds.proofs.Below.{first_holds, last-holds, some-yes}
use Rattle.folds.proofs.Lists.{list_at}
use Rattle.view.specs.View.{max_points}
use Rattle.cells.specs.Points.{Point, nowhere}
use Rattle.cells.specs.Cell.{Cell, cell_of, agree, cells_of}
use Rattle.cells.proofs.Edges.{agree-true, agree-itself}
use Rattle.cells.proofs.Keys.{cell_at}
use Rattle.grid.specs.Tables.{entry_in, first_in_row, first_in_column, last_with_index}
use Rattle.grid.specs.Views.{view_of}
use Rattle.grid.proofs.Firsts.{first_below}
use Rattle.grid.proofs.Views.{index_list, row_read, column-read, index_read}

-- a test that two things are one
module _ {A : Type 0} (same : A → A → Bool) (itself : (a : A) → same a a ≡ true) (one : (a b : A) → same a b ≡ true → a ≡ b) (f : ℕ → A) (n : ℕ) where
  -- the first with k's value, and the last
  abbrev first_with : ℕ → ℕ
  first_with k = first (λ (j : ℕ). same (f j) (f k)) 0 n

  abbrev last_with : ℕ → ℕ
  last_with k = last (λ (j : ℕ). same (f j) (f k)) 0 n

  first-value : (k : ℕ) → k < n → f (first_with k) ≡ f k
  first-value k h = let p : ℕ → Bool = λ j. same (f j) (f k) in one (f (first_with k)) (f k) (first_holds p 0 n (first_below p n k h (itself (f k))))

  last-value : (k : ℕ) → k < n → f (last_with k) ≡ f k
  last-value k h = let p : ℕ → Bool = λ j. same (f j) (f k) in one (f (last_with k)) (f k) (last-holds p 0 n (some-yes p n k h (itself (f k)))).1

  one-first : (j k : ℕ) → j < n → k < n → first_with j ≡ first_with k → f j ≡ f k
  one-first j k a b e = sym (first-value j a) ∙ ap f e ∙ first-value k b

  one_last : (j k : ℕ) → j < n → k < n → last_with j ≡ last_with k → f j ≡ f k
  one_last j k a b e = sym (last-value j a) ∙ ap f e ∙ last-value k b

  first-same : (j k : ℕ) → f j ≡ f k → first_with j ≡ first_with k
  first-same j k e = ap (λ (x : A). first (λ (i : ℕ). same (f i) x) 0 n) e

  last-same : (j k : ℕ) → f j ≡ f k → last_with j ≡ last_with k
  last-same j k e = ap (λ (x : A). last (λ (i : ℕ). same (f i) x) 0 n) e

eqb-itself : (m : ℕ) → eqb m m ≡ true
eqb-itself m = eq-eqb m m refl

module _ (ps : List Point) where
  abbrev index : ℕ → ℕ
  index k = (get_or ps k nowhere).index

  index_at : (k : ℕ) → k < length ps → entry_in (index_list ps) k ≡ index k
  index_at k h = list_at (length ps) index k 0 h

  -- one index
  pub one_index : (j k : ℕ) → j < length ps → k < length ps → (view_of ps).by_idx j ≡ (view_of ps).by_idx k → index j ≡ index k
  unfolding last_with_index
  one_index j k a b e =
      sym (index_at j a) ∙ one_last eqb eqb-itself eqb-true (entry_in (index_list ps)) (length ps) j k a b (sym (index_read ps j a) ∙ e ∙ index_read ps k b) ∙ index_at k b

  pub index_same : (j k : ℕ) → j < length ps → k < length ps → index j ≡ index k → (view_of ps).by_idx j ≡ (view_of ps).by_idx k
  unfolding last_with_index
  index_same j k a b e =
      index_read ps j a ∙ last-same eqb eqb-itself eqb-true (entry_in (index_list ps)) (length ps) j k (index_at j a ∙ e ∙ sym (index_at k b)) ∙ sym (index_read ps k b)

module _ (ps : List Point) (few : length ps ≤ max_points) where
  abbrev cell : ℕ → Cell
  cell k = cell_of (get_or ps k nowhere)

  abbrev row_number : ℕ → ℤ
  row_number k = (cells_of ps k).v

  abbrev column_number : ℕ → ℤ
  column_number k = (cells_of ps k).u

  v-at : (k : ℕ) → k < length ps → row_number k ≡ (cell k).v
  v-at k h = ap (λ (c : Cell). c.v) (cell_at ps k h)

  u-at : (k : ℕ) → k < length ps → column_number k ≡ (cell k).u
  u-at k h = ap (λ (c : Cell). c.u) (cell_at ps k h)

  -- one row
  pub one-row : (j k : ℕ) → j < length ps → k < length ps → (view_of ps).row j ≡ (view_of ps).row k → (cell j).v ≡ (cell k).v
  unfolding first_in_row
  one-row j k a b e =
      sym (v-at j a) ∙ one-first agree agree-itself agree-true row_number (length ps) j k a b (sym (row_read ps few j a) ∙ e ∙ row_read ps few k b) ∙ v-at k b

  pub row_same : (j k : ℕ) → j < length ps → k < length ps → (cell j).v ≡ (cell k).v → (view_of ps).row j ≡ (view_of ps).row k
  unfolding first_in_row
  row_same j k a b e =
      row_read ps few j a ∙ first-same agree agree-itself agree-true row_number (length ps) j k (v-at j a ∙ e ∙ sym (v-at k b)) ∙ sym (row_read ps few k b)

  -- one column
  pub one-column : (j k : ℕ) → j < length ps → k < length ps → (view_of ps).column j ≡ (view_of ps).column k → (cell j).u ≡ (cell k).u
  unfolding first_in_column
  one-column j k a b e =
      sym (u-at j a) ∙ one-first agree agree-itself agree-true column_number (length ps) j k a b (sym (column-read ps few j a) ∙ e ∙ column-read ps few k b) ∙ u-at k b

  pub column-same : (j k : ℕ) → j < length ps → k < length ps → (cell j).u ≡ (cell k).u → (view_of ps).column j ≡ (view_of ps).column k
  unfolding first_in_column
  column-same j k a b e =
      column-read ps few j a ∙ first-same agree agree-itself agree-true column_number (length ps) j k (u-at j a ∙ e ∙ sym (u-at k b)) ∙ sym (column-read ps few k b)
