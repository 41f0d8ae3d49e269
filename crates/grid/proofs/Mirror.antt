-- Who stands at an offset, of ranks no two of which have one cell; so neighbours are neighbours both ways. Assumes nothing.
use mathlib.Core.Path.{◌≡◌, sym, ap, ◌∙◌}
use mathlib.Core.List.{List}
use Prim.Native.Nat.{ℕ, ◌+◌, ◌-◌, ◌*◌, ◌/◌, ◌%◌, ◌<◌}
use native.Mathlib.Omega.{arith}
use borrow.Author.Tests.{eqb-true}
use Rattle.folds.proofs.Below.{first_holds, first-hit}
use Rattle.offsets.specs.declared.Offset.{Offset}
use Rattle.offsets.specs.Offsets.{offset_of}
use Rattle.cells.specs.Points.{stride}
use Rattle.cells.specs.Cell.{Cell, coincide, offset_by, cells_at}
use Rattle.cells.proofs.Edges.{agree_same, coincide-same, coincide-true, offset-back}
use Rattle.cells.proofs.Keys.{same-u, same-v}
use Rattle.grid.specs.Tables.{neighbour_of, neighbour_entry, first_in_row, first_in_column, last_with_index, entry_in, ranks_of, Keys}
use Rattle.grid.proofs.Filled.{block_near}
use Rattle.grid.proofs.Views.{held}
use Rattle.std.proofs.lemmas.Bool.{false_from_ne_true}

module _ (n : ℕ) (cell : ℕ → Cell) (apart : (i j : ℕ) → i < j → j < n → cell i ≡ cell j → ⊥) where
  -- the rank at an offset holds the point of the cell at (u + du, v + dv) ..
  pub neighbour-means : (k : ℕ) (o : Offset) (j : ℕ) → j < n → neighbour_of n cell k o ≡ j → cell j ≡ offset_by o (cell k)
  unfolding neighbour_of
  neighbour-means k o j m e =
      rw e at (coincide-true (cell (neighbour_of n cell k o)) (offset_by o (cell k)) (first_holds (λ (j : ℕ). coincide (cell j) (offset_by o (cell k))) 0 n (omega (arith, e))))

  -- .. and if there is such a point, its rank stands there
  pub neighbour-found : (k : ℕ) (o : Offset) (j : ℕ) → j < n → cell j ≡ offset_by o (cell k) → neighbour_of n cell k o ≡ j
  unfolding neighbour_of
  neighbour-found k o j m e =
      first-hit (λ (j : ℕ). coincide (cell j) (offset_by o (cell k))) n j m (coincide-same (cell j) (offset_by o (cell k)) e)
      (λ i b. false_from_ne_true (coincide (cell i) (offset_by o (cell k))) (λ t. apart i j b m (coincide-true (cell i) (offset_by o (cell k)) t ∙ sym e)))

  -- j stands at place d of k just where k stands at place 24 - d of j
  pub neighbour-back : (k j d : ℕ) → k < n → j < n → d < 25 → neighbour_of n cell k (offset_of d) ≡ j → neighbour_of n cell j (offset_of (24 - d)) ≡ k
  neighbour-back k j d hk hj hd e =
      neighbour-found j (offset_of (24 - d)) k hk (sym (offset-back d (cell k) hd) ∙ ap (offset_by (offset_of (24 - d))) (sym (neighbour-means k (offset_of d) j hj e)))

-- of the table of ranks
module _ (n : ℕ) (keys indices : List ℕ) (h : Keys keys n) where
  abbrev cell : ℕ → Cell
  cell = cells_at keys

  keys-apart : (i j : ℕ) → i < j → j < n → cell i ≡ cell j → ⊥
  keys-apart i j ij jn e =
      let a = entry_in keys i in
      let b = entry_in keys j in
      let u = eqb-true (a / stride) (b / stride) (sym (same-u a b) ∙ agree_same (cell i).u (cell j).u (ap (λ (c : Cell). c.u) e)) in
      let v = eqb-true (a % stride) (b % stride) (sym (same-v a b) ∙ agree_same (cell i).v (cell j).v (ap (λ (c : Cell). c.v) e)) in
      omega (arith, u, v, h.rising i j ij jn)

  near-at : (k d : ℕ) → k < n → d < 25 → entry_in (ranks_of n keys indices) (25 * k + d) ≡ neighbour_of n cell k (offset_of d)
  near-at k d hk hd =
      let a : (25 * k + d) / 25 ≡ k = omega arith in
      let b : (25 * k + d) % 25 ≡ d = omega arith in
      held n keys indices h.few (25 * k + d)
      ∙ block_near n (neighbour_entry n cell) (first_in_row n cell) (first_in_column n cell) (last_with_index n (entry_in indices)) h.few (25 * k + d) (omega arith)
      ∙ rw (a, b)

  pub ranks-mirrored : (k j d : ℕ) → k < n → j < n → d < 25 → entry_in (ranks_of n keys indices) (25 * k + d) ≡ j → entry_in (ranks_of n keys indices) (25 * j + (24 - d)) ≡ k
  ranks-mirrored k j d hk hj hd e = near-at j (24 - d) hj (omega arith) ∙ neighbour-back n cell keys-apart k j d hk hj hd (sym (near-at k d hk hd) ∙ e)
