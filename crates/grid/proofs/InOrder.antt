-- Points in cell order: their keys, and where each stands to the others. Assumes nothing.
use mathlib.Core.Path.{◌≡◌, sym, ap, ◌∙◌}
use mathlib.Core.Bool.{true, true≢false}
use mathlib.Core.List.{List}
use Prim.Native.Nat.{ℕ, ◌+◌, ◌-◌, ◌*◌, ◌≤◌, ◌<◌}
use native.Mathlib.Omega.{arith}
use lib.ListN.{length, get_or}
use borrow.Author.Tests.{lt-ltb, le-ltb, ltb-true}
use Rattle.folds.proofs.Column.{column-at, length-column}
use Rattle.offsets.specs.declared.Offset.{Offset}
use Rattle.offsets.specs.Offsets.{is_near, offset_of}
use Rattle.offsets.proofs.Places.{offset_near, offset-place}
use Rattle.view.specs.View.{max_points, rank_at}
use Rattle.cells.specs.Points.{Point, nowhere, key_of, keys_of}
use Rattle.cells.specs.Cell.{Cell, cell_of, InRange, before, offset_by, cells_of}
use Rattle.cells.proofs.Keys.{key-cell, key-order, cell_at}
use Rattle.grid.specs.Tables.{entry_in, Keys}
use Rattle.grid.specs.Views.{view_of}
use Rattle.grid.specs.InOrder.{CellOrder}
use Rattle.grid.proofs.Views.{near-read}
use Rattle.grid.proofs.Mirror.{neighbour-means, neighbour-found, neighbour-back}

-- ---- by keys

-- points whose keys rise
pub order-by-keys : (ps : List Point) → length ps ≤ max_points → ((k : ℕ) → k < length ps → InRange (get_or ps k nowhere)) → ((i j : ℕ) → i < j → j < length ps → key_of (get_or ps i nowhere) < key_of (get_or ps j nowhere)) → CellOrder ps
order-by-keys ps few inside rising = record {
  few = few;
  inside = inside;
  rising = λ i j ij h. sym (key-order (get_or ps i nowhere) (get_or ps j nowhere) (inside i (omega arith)) (inside j h)) ∙ lt-ltb (key_of (get_or ps i nowhere)) (key_of (get_or ps j nowhere)) (rising i j ij h);
}

module _ (ps : List Point) (o : CellOrder ps) where
  abbrev cell : ℕ → Cell
  cell k = cell_of (get_or ps k nowhere)

  keys-rise : (i j : ℕ) → i < j → j < length ps → key_of (get_or ps i nowhere) < key_of (get_or ps j nowhere)
  keys-rise i j ij h =
      ltb-true (key_of (get_or ps i nowhere)) (key_of (get_or ps j nowhere)) (key-order (get_or ps i nowhere) (get_or ps j nowhere) (o.inside i (omega arith)) (o.inside j h) ∙ o.rising i j ij h)

  -- their keys are as the code asks
  pub keys-ready : Keys (keys_of ps) (length ps)
  unfolding keys_of
  keys-ready = record {
    size = length-column max_points 0 (length ps) key o.few;
    few = o.few;
    rising = λ i j ij h. rw (read i (omega arith), read j h) (keys-rise i j ij h);
    in-range = λ k h. rw (read k h, key-cell (get_or ps k nowhere) (o.inside k h)) (record { u = (o.inside k h).u; v = (o.inside k h).v });
  }
    where
      key : ℕ → ℕ
      key k = key_of (get_or ps k nowhere)

      read : (k : ℕ) → k < length ps → entry_in (keys_of ps) k ≡ key_of (get_or ps k nowhere)
      read k h = column-at max_points 0 (length ps) key k h

  -- ---- neighbours

  -- no two in one cell
  apart : (i j : ℕ) → i < j → j < length ps → cell i ≡ cell j → ⊥
  apart i j ij h e =
      let p = get_or ps j nowhere in
      true≢false (sym (o.rising i j ij h) ∙ ap (λ (c : Cell). before c (cell j)) e ∙ sym (key-order p p (o.inside j h) (o.inside j h)) ∙ le-ltb (key_of p) (key_of p) (omega arith))

  no-two : (i j : ℕ) → i < j → j < length ps → cells_of ps i ≡ cells_of ps j → ⊥
  no-two i j ij h e = apart i j ij h (sym (cell_at ps i (omega arith)) ∙ e ∙ cell_at ps j h)

  -- the rank at an offset holds the point of the cell at (u + du, v + dv) ..
  pub near-means : (k : ℕ) (d : Offset) (j : ℕ) → k < length ps → is_near d ≡ true → j < length ps → rank_at (view_of ps) k d ≡ j → cell j ≡ offset_by d (cell k)
  near-means k d j h l m e =
      sym (cell_at ps j m) ∙ neighbour-means (length ps) (cells_of ps) no-two k d j m (sym (near-read ps o.few k d h l) ∙ e) ∙ ap (offset_by d) (cell_at ps k h)

  -- .. and if there is such a point, its rank stands there
  pub near-found : (k : ℕ) (d : Offset) (j : ℕ) → k < length ps → is_near d ≡ true → j < length ps → cell j ≡ offset_by d (cell k) → rank_at (view_of ps) k d ≡ j
  near-found k d j h l m e =
      near-read ps o.few k d h l ∙ neighbour-found (length ps) (cells_of ps) no-two k d j m (cell_at ps j m ∙ e ∙ ap (offset_by d) (sym (cell_at ps k h)))

  -- j stands at place d of k just where k stands at place 24 - d of j
  pub mirrored : (k j d : ℕ) → k < length ps → j < length ps → d < 25 → (view_of ps).near (25 * k + d) ≡ j → (view_of ps).near (25 * j + (24 - d)) ≡ k
  mirrored k j d hk hj hd e =
      sym (at_place j (24 - d)) ∙ near-read ps o.few j (offset_of (24 - d)) hj (offset_near (24 - d) (omega arith))
      ∙ neighbour-back (length ps) (cells_of ps) no-two k j d hk hj hd (sym (near-read ps o.few k (offset_of d) hk (offset_near d hd)) ∙ at_place k d ∙ e)
    where
      at_place : (k d : ℕ) → rank_at (view_of ps) k (offset_of d) ≡ (view_of ps).near (25 * k + d)
      at_place k d = ap (λ (i : ℕ). (view_of ps).near (25 * k + i)) (offset-place d)
