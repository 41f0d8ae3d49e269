-- The sheet that takes longest as the filters see it: a row of points 7 apart, each with an index of its own. Assumes nothing.
use mathlib.Core.Path.{◌≡◌, refl, sym, ap, ◌∙◌}
use mathlib.Core.Bool.{true}
use mathlib.Core.List.{List}
use Prim.Native.Nat.{ℕ, ◌+◌, ◌-◌, ◌*◌, ◌^◌, ◌≤◌, ◌<◌}
use native.Mathlib.Omega.{arith}
use lib.Dec.{eqb}
use lib.IntN.{ℤ, pos, ◌+ℤ◌, +ℤ_idl}
use lib.Ieee.{nan}
use lib.ListN.{length, get_or}
use borrow.Author.Tests.{lt-ltb, le-ltb, ltb-true, eq-eqb, ne_eqb}
use Rattle.folds.specs.Arith.{f32}
use Rattle.folds.proofs.Below.{last-hit}
use Rattle.folds.proofs.Lists.{list_at}
use Rattle.offsets.specs.declared.Offset.{Offset}
use Rattle.offsets.specs.Offsets.{is_near, next_u, prev_u, ±0}
use Rattle.view.specs.View.{View, max_points, rank_at, present}
use Rattle.cells.specs.Points.{Point, nowhere}
use Rattle.cells.specs.Cell.{Cell, signed, cell_of, offset_by}
use Rattle.cells.proofs.Coordinates.{up_of, down_of, Liftable, add-lift}
use Rattle.cells.proofs.Edges.{cell_at, same-cell}
use Rattle.grid.specs.InOrder.{CellOrder}
use Rattle.grid.specs.Tables.{entry_in, last_with_index}
use Rattle.grid.specs.Views.{view_of}
use Rattle.grid.proofs.InOrder.{near-means, near-found}
use Rattle.grid.proofs.Views.{index_list, index_read}
use Rattle.ruling.proofs.Standing.{accepted-order}
use Rattle.straight_row.specs.Row.{Row}
use Rattle.worst_sheet.specs.Worst.{worst_points, worst_file}
use Rattle.worst_row.specs.Sheet.{worst_settings}
use Rattle.worst_row.proofs.Patterns.{bits_back, zero_is}
use Rattle.worst_row.proofs.Accepted.{point-is, point-count, worst-accepted, worst-bytes}

-- ---- what is read of the view of any points

module _ (ps : List Point) where
  count-read : (view_of ps).count ≡ length ps
  unfolding view_of
  count-read = refl

  x-read : (k : ℕ) → k < length ps → (view_of ps).x k ≡ f32 (get_or ps k nowhere).x
  unfolding view_of
  x-read k h = list_at (length ps) (λ (k : ℕ). f32 (get_or ps k nowhere).x) k nan h

  y-read : (k : ℕ) → k < length ps → (view_of ps).y k ≡ f32 (get_or ps k nowhere).y
  unfolding view_of
  y-read k h = list_at (length ps) (λ (k : ℕ). f32 (get_or ps k nowhere).y) k nan h

-- ---- the cells of a row

signed_is : (b : ℕ) → b < 2 ^ 31 → signed b ≡ pos b
signed_is b h = rw (lt-ltb b (2 ^ 31) h)

-- from column k to column j by a whole number
columns : (k j : ℕ) (a : ℤ) → pos j ≡ pos k +ℤ a → j + down_of a ≡ k + up_of a
columns k j a e = let l : Liftable (pos k +ℤ a) = rw (← e) tt in omega (arith, (rw (← e) at (add-lift (pos k) a tt l)))

module _ (n : ℕ) (few : n ≤ max_points) where
  abbrev ps : List Point
  ps = worst_points n

  abbrev w : View
  w = view_of ps

  pub counted : w.count ≡ n
  counted = count-read ps ∙ point-count n few

  worst-order : CellOrder ps
  worst-order = accepted-order (worst_file n) (28 * n) worst_settings ps (worst-bytes n few) (worst-accepted n few (28 * n) (omega arith))

  cell-is : (k : ℕ) → k < n → cell_of (get_or ps k nowhere) ≡ cell_at (pos k) ±0
  cell-is k h = ap cell_of (point-is n few k h) ∙ same-cell (signed_is k (omega arith)) refl

  -- where there is a point at an offset, its cell is at that offset
  neighbour : (k : ℕ) (o : Offset) → k < n → is_near o ≡ true → present w k o ≡ true → cell_at (pos (rank_at w k o)) ±0 ≡ offset_by o (cell_at (pos k) ±0)
  neighbour k o h l e =
      let j = rank_at w k o in
      let m : j < n = omega (arith, counted, ltb-true j w.count e) in
      sym (cell-is j m) ∙ near-means ps worst-order k o j (omega (arith, point-count n few)) l (omega (arith, point-count n few)) refl ∙ ap (offset_by o) (cell-is k h)

  along : (k : ℕ) (o : Offset) → k < n → is_near o ≡ true → present w k o ≡ true → rank_at w k o + down_of o.du ≡ k + up_of o.du
  along k o h l e = columns k (rank_at w k o) o.du (ap (λ (c : Cell). c.u) (neighbour k o h l e))

  pub row-view : Row w
  row-view = record {
    few = omega (arith, counted);
    x = λ k h. x-read ps k (omega (arith, count-read ps)) ∙ ap (λ (p : Point). f32 p.x) (point-is n few k (omega (arith, counted))) ∙ bits_back (7 * k);
    y = λ k h. y-read ps k (omega (arith, count-read ps)) ∙ ap (λ (p : Point). f32 p.y) (point-is n few k (omega (arith, counted))) ∙ zero_is;
    beside = λ k o h l e. sym (+ℤ_idl o.dv) ∙ sym (ap (λ (c : Cell). c.v) (neighbour k o (omega (arith, counted)) l e));
    ahead = λ k h e. omega (arith, along k next_u (omega (arith, counted)) refl e);
    behind = λ k h e. omega (arith, along k prev_u (omega (arith, counted)) refl e);
  }

  -- a point at an offset is found
  found : (k : ℕ) (o : Offset) (j : ℕ) → k < n → is_near o ≡ true → j < n → cell_at (pos j) ±0 ≡ offset_by o (cell_at (pos k) ±0) → rank_at w k o ≡ j
  found k o j h l m e = near-found ps worst-order k o j (omega (arith, point-count n few)) l (omega (arith, point-count n few)) (cell-is j m ∙ e ∙ ap (offset_by o) (sym (cell-is k h)))

  pub next-found : (k : ℕ) → k + 1 < n → rank_at w k next_u ≡ k + 1
  next-found k h = found k next_u (k + 1) (omega arith) refl h refl

  pub prev-found : (k : ℕ) → k + 1 < n → rank_at w (k + 1) prev_u ≡ k
  prev-found k h = found (k + 1) prev_u k h refl (omega arith) (same-cell (let z : k + 1 - 1 ≡ k = omega arith in rw (le-ltb (k + 1) 1 (omega arith), z)) refl)

  -- each index stands for itself
  pub own-index : (k : ℕ) → k < n → w.by_idx k ≡ k
  unfolding last_with_index
  own-index k h =
      index_read ps k (omega (arith, point-count n few))
      ∙ last-hit (λ (j : ℕ). eqb (index j) (index k)) 0 (length ps) k (omega (arith, point-count n few)) (eq-eqb (index k) (index k) refl)
      (λ j l m. ne_eqb (index j) (index k) (λ e. omega (arith, e, index_is k h, index_is j (omega (arith, point-count n few)))))
    where
      index : ℕ → ℕ
      index = entry_in (index_list ps)

      index_is : (j : ℕ) → j < n → index j ≡ j
      index_is j l = list_at (length ps) (λ (k : ℕ). (get_or ps k nowhere).index) j 0 (omega (arith, point-count n few)) ∙ ap (λ (p : Point). p.index) (point-is n few j l)
