-- Which rank stands where, by rising keys, and that it is the one whose cell is there. Assumes nothing.
use mathlib.Core.Path.{◌≡◌, sym}
use mathlib.Core.Bool.{◌&&◌}
use mathlib.Core.List.{List}
use Prim.Native.Nat.{ℕ, ◌+◌, ◌*◌, ◌/◌, ◌%◌, ◌^◌, ◌<◌}
use native.Mathlib.Omega.{arith}
use lib.Dec.{eqb}
use borrow.Author.Tests.{eq-eqb, ne_eqb, eqb-true}
use Rattle.folds.proofs.Below.{first-hit, first-miss, first-ext}
use Rattle.offsets.specs.Offsets.{offset_of}
use Rattle.cells.specs.Points.{stride}
use Rattle.cells.specs.Cell.{CellInRange, coincide, offset_by, cell_of_key, cells_at}
use Rattle.cells.proofs.Coordinates.{lift, lift-agree, part-liftable, part-lift, two-off}
use Rattle.cells.proofs.Keys.{parts-range, small-key}
use Rattle.grid.specs.Tables.{entry_in, neighbour_of, Keys}
use Rattle.grid.specs.Sweep.{key_centre, standing}
use Rattle.std.proofs.lemmas.Bool.{and_from, and_parts}
use Rattle.std.specs.Cmp.{both_ways}

-- keys are small
pub keys-small : (keys : List ℕ) (n : ℕ) → Keys keys n → (k : ℕ) → k < n → entry_in keys k < 2 ^ 28
keys-small keys n ks k h = small-key (entry_in keys k) (ks.in-range k h)

-- the first n keys rise
abbrev pub KeysRise : ℕ → (ℕ → ℕ) → Type 0
KeysRise n key = (i j : ℕ) → i < j → j < n → key i < key j

module _ (n : ℕ) (key : ℕ → ℕ) where
  -- no rank is there
  pub standing-miss : (t : ℕ) → ((j : ℕ) → j < n → key j + key_centre ≡ t → ⊥) → standing n key t ≡ n
  unfolding standing
  standing-miss t h = first-miss (λ (j : ℕ). eqb (key j + key_centre) t) n (λ j l. ne_eqb (key j + key_centre) t (h j l))

  -- a rank that is there is found
  pub standing-hit : KeysRise n key → (t j : ℕ) → j < n → key j + key_centre ≡ t → standing n key t ≡ j
  unfolding standing
  standing-hit rising t j l e =
      first-hit (λ (j : ℕ). eqb (key j + key_centre) t) n j l (eq-eqb (key j + key_centre) t e)
      (λ i m. ne_eqb (key i + key_centre) t (λ q. omega (arith, q, e, rising i j m l)))

-- A key plus key_step d is the key of the cell at the offset with place d plus key_centre.
abbrev pub key_step : ℕ → ℕ
key_step d = stride * (d / 5) + d % 5

-- b's cell is at the offset with place d from a's just where the keys say so
offset-key : (a b d : ℕ) → CellInRange (cell_of_key a) → CellInRange (cell_of_key b) → coincide (cell_of_key b) (offset_by (offset_of d) (cell_of_key a)) ≡ eqb (b + key_centre) (a + key_step d)
offset-key a b d r s =
    let mu = two-off (cell_of_key a).u (d / 5) r.u in
    let mv = two-off (cell_of_key a).v (d % 5) r.v in
    let pa = parts-range a r in
    let pb = parts-range b s in
    let xu = (offset_by (offset_of d) (cell_of_key a)).u in
    let xv = (offset_by (offset_of d) (cell_of_key a)).v in
    let eu : lift xu + 2 ≡ a / stride + d / 5 = rw (part-lift (a / stride)) at mu.1 in
    let ev : lift xv + 2 ≡ a % stride + d % 5 = rw (part-lift (a % stride)) at mv.1 in
    rw (lift-agree (cell_of_key b).u xu (part-liftable (b / stride)) mu.0, lift-agree (cell_of_key b).v xv (part-liftable (b % stride)) mv.0, part-lift (b / stride), part-lift (b % stride))
    (both_ways (eqb (b / stride) (lift xu) && eqb (b % stride) (lift xv)) (eqb (b + key_centre) (a + key_step d))
    (λ e.
    let f = eqb-true (b / stride) (lift xu) (and_parts (eqb (b / stride) (lift xu)) (eqb (b % stride) (lift xv)) e).0 in
    let g = eqb-true (b % stride) (lift xv) (and_parts (eqb (b / stride) (lift xu)) (eqb (b % stride) (lift xv)) e).1 in
    eq-eqb (b + key_centre) (a + key_step d) (omega arith))
    (λ e.
    let f = eqb-true (b + key_centre) (a + key_step d) e in
    and_from (eqb (b / stride) (lift xu)) (eqb (b % stride) (lift xv)) (eq-eqb (b / stride) (lift xu) (omega arith)) (eq-eqb (b % stride) (lift xv) (omega arith))))

-- the rank that stands at a target is the neighbour
pub standing-is : (keys : List ℕ) (n : ℕ) → Keys keys n → (k d : ℕ) → k < n → standing n (entry_in keys) (entry_in keys k + key_step d) ≡ neighbour_of n (cells_at keys) k (offset_of d)
unfolding standing neighbour_of
standing-is keys n ks k d h =
    first-ext (λ (j : ℕ). eqb (entry_in keys j + key_centre) (entry_in keys k + key_step d)) (λ (j : ℕ). coincide (cells_at keys j) (offset_by (offset_of d) (cells_at keys k))) n
    (λ j l. sym (offset-key (entry_in keys k) (entry_in keys j) d (ks.in-range k h) (ks.in-range j l)))
