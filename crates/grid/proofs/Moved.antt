-- Points whose cells are all moved by one offset have the same view. Assumes nothing.
use mathlib.Core.Path.{◌≡◌, ap, sym, ◌∙◌}
use mathlib.Core.List.{List}
use Prim.Native.Nat.{ℕ, ◌*◌, ◌/◌, ◌%◌, ◌<◌}
use native.Mathlib.Omega.{arith}
use lib.IntN.{ℤ}
use lib.Ieee.{nan}
use lib.ListN.{length, get_or}
use Rattle.folds.specs.Arith.{f32}
use Rattle.folds.proofs.Below.{first-ext}
use Rattle.folds.proofs.Lists.{list_ext}
use Rattle.offsets.specs.declared.Offset.{Offset}
use Rattle.offsets.specs.Offsets.{offset_of}
use Rattle.cells.specs.Points.{Point, nowhere}
use Rattle.cells.specs.Cell.{moved, agree, coincide, offset_by, cells_of}
use Rattle.cells.proofs.Edges.{agree-moved, offset-moved}
use Rattle.cells.proofs.Keys.{cell_at}
use Rattle.grid.specs.Tables.{neighbour_of, neighbour_entry, first_in_row, first_in_column}
use Rattle.grid.specs.Views.{view_of}
use Rattle.grid.specs.Moved.{Moved}

module _ (a b : ℤ) (ps qs : List Point) (size : length qs ≡ length ps) (all : (k : ℕ) → k < length ps → Moved a b (get_or ps k nowhere) (get_or qs k nowhere)) where
  abbrev n : ℕ
  n = length ps

  pub cells-moved : (k : ℕ) → k < n → cells_of qs k ≡ moved a b (cells_of ps k)
  cells-moved k h = cell_at qs k (omega arith) ∙ (all k h).cell ∙ ap (moved a b) (sym (cell_at ps k h))

  near-stays : (k : ℕ) (o : Offset) → k < n → neighbour_of n (cells_of qs) k o ≡ neighbour_of n (cells_of ps) k o
  unfolding neighbour_of
  near-stays k o h =
      first-ext (λ (j : ℕ). coincide (cells_of qs j) (offset_by o (cells_of qs k))) (λ (j : ℕ). coincide (cells_of ps j) (offset_by o (cells_of ps k))) n
      (λ j l. ap (coincide (cells_of qs j)) (ap (offset_by o) (cells-moved k h)) ∙ ap (λ c. coincide c (offset_by o (moved a b (cells_of ps k)))) (cells-moved j l) ∙ offset-moved a b o (cells_of ps k) (cells_of ps j))

  row_stays : (k : ℕ) → k < n → first_in_row n (cells_of qs) k ≡ first_in_row n (cells_of ps) k
  unfolding first_in_row
  row_stays k h =
      first-ext (λ (j : ℕ). agree (cells_of qs j).v (cells_of qs k).v) (λ (j : ℕ). agree (cells_of ps j).v (cells_of ps k).v) n
      (λ j l. rw (cells-moved j l, cells-moved k h) (agree-moved (cells_of ps j).v (cells_of ps k).v b))

  column-stays : (k : ℕ) → k < n → first_in_column n (cells_of qs) k ≡ first_in_column n (cells_of ps) k
  unfolding first_in_column
  column-stays k h =
      first-ext (λ (j : ℕ). agree (cells_of qs j).u (cells_of qs k).u) (λ (j : ℕ). agree (cells_of ps j).u (cells_of ps k).u) n
      (λ j l. rw (cells-moved j l, cells-moved k h) (agree-moved (cells_of ps j).u (cells_of ps k).u a))

  -- what the filters see stays
  pub view-moved : view_of qs ≡ view_of ps
  unfolding view_of
  view-moved =
      rw (
        size,
        list_ext 0 n (λ (k : ℕ). (get_or qs k nowhere).index) (λ (k : ℕ). (get_or ps k nowhere).index) (λ k h. (all k h).index),
        list_ext 0 (25 * n) (neighbour_entry n (cells_of qs)) (neighbour_entry n (cells_of ps)) (λ i h. near-stays (i / 25) (offset_of (i % 25)) (omega arith)),
        list_ext 0 n (first_in_row n (cells_of qs)) (first_in_row n (cells_of ps)) row_stays,
        list_ext 0 n (first_in_column n (cells_of qs)) (first_in_column n (cells_of ps)) column-stays,
        list_ext nan n (λ (k : ℕ). f32 (get_or qs k nowhere).x) (λ (k : ℕ). f32 (get_or ps k nowhere).x) (λ k h. ap f32 (all k h).x),
        list_ext nan n (λ (k : ℕ). f32 (get_or qs k nowhere).y) (λ (k : ℕ). f32 (get_or ps k nowhere).y) (λ k h. ap f32 (all k h).y),
      )
