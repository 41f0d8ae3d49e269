-- The conditions of numbers 8, 9 and 14, on neighbours in the order of the cells, and of the indices. Assumes nothing.
use Rattle.std.specs.List.{list_any}
use mathlib.Core.Path.{◌≡◌, refl, sym, ◌∙◌}
use mathlib.Core.Bool.{Bool, true, false, not, ◌&&◌, ◌||◌, true≢false}
use mathlib.Core.List.{List}
use Prim.Native.Nat.{ℕ, ◌+◌, ◌-◌, ◌*◌, ◌/◌, ◌%◌, ◌^◌, ◌≤◌, ◌<◌}
use native.Mathlib.Omega.{arith}
use lib.Dec.{eqb}
use lib.ListN.{get_or}
use borrow.Author.Tests.{eqb-true, eq-eqb, ne_eqb}
use Rattle.folds.specs.Among.{pair_in}
use Rattle.folds.proofs.Among.{any-list, pair-ext}
use Rattle.folds.specs.Below.{some}
use Rattle.folds.proofs.Below.{some-ext, some-fails}
use Rattle.view.specs.View.{max_points}
use Rattle.cells.specs.Points.{Point, biased, key_of}
use Rattle.cells.specs.Cell.{signed, within, InRange}
use Rattle.cells.proofs.Keys.{biased-range}
use Rattle.sheet_file.specs.Bytes.{Bytes}
use Rattle.sheet_file.specs.declared.Layout.{Layout}
use Rattle.sheet_file.proofs.Words.{le32-small}
use Rattle.sort.specs.Packed.{entries_of, packed_places, placed}
use Rattle.points.specs.Records.{ith_point, points_in}
use Rattle.points.specs.Refusals.{off_range, same_cell, same_position, same_strength}
use Rattle.points.specs.Entries.{clash, Likeness}
use Rattle.sort.proofs.Entries.{entry_at}
use Rattle.points.proofs.Ordering.{entry_key}
use Rattle.points.proofs.Neighbours.{eqb_swap, sorted-neighbours}
use Rattle.std.proofs.lemmas.Bool.{and_from, and_parts}
use Rattle.std.specs.Cmp.{both_ways}

-- ---- entries and pairs

same-through : (p q r : Point) → same_position p q ≡ true → same_position q r ≡ true → same_position p r ≡ true
same-through p q r a b =
    let x : p.x ≡ r.x = eqb-true p.x q.x (and_parts (eqb p.x q.x) (eqb p.y q.y) a).0 ∙ eqb-true q.x r.x (and_parts (eqb q.x r.x) (eqb q.y r.y) b).0 in
    let y : p.y ≡ r.y = eqb-true p.y q.y (and_parts (eqb p.x q.x) (eqb p.y q.y) a).1 ∙ eqb-true q.y r.y (and_parts (eqb q.x r.x) (eqb q.y r.y) b).1 in
    and_from (eqb p.x r.x) (eqb p.y r.y) (eq-eqb p.x r.x x) (eq-eqb p.y r.y y)

strength-through : (p q r : Point) → same_strength p q ≡ true → same_strength q r ≡ true → same_strength p r ≡ true
strength-through p q r a b = eq-eqb p.strength r.strength (eqb-true p.strength q.strength a ∙ eqb-true q.strength r.strength b)

-- no two points of one cell may stand together
abbrev pub never : Point → Point → Bool
never p q = false

-- two points of one cell may never stand together; of one index those with one position may, and those with one strength
pub never_alike : Likeness never
never_alike = record { through = λ p q r a b. a; back = λ p q. refl }

pub position_alike : Likeness same_position
position_alike = record { through = same-through; back = λ p q. rw (eqb_swap p.x q.x, eqb_swap p.y q.y) }

pub strength_alike : Likeness same_strength
strength_alike = record { through = strength-through; back = λ p q. eqb_swap p.strength q.strength }

module _ (file : List ℕ) (f : Layout) where
  -- a test of the points, one by one
  pub any-listed : (t : Point → Bool) → list_any t (points_in file f) ≡ some (λ (i : ℕ). t (ith_point file f i)) f.count
  unfolding points_in
  any-listed t = any-list (ith_point file f) f.count t

  module _ (key : Point → ℕ) where
    abbrev key_at : ℕ → ℕ
    key_at i = key (ith_point file f i)

    -- the point at rank r, and whether it clashes with the next
    abbrev pub point_at : ℕ → Point
    point_at r = ith_point file f (get_or (entries_of f.count key_at) r 0 % packed_places)

    module _ (same : Point → Point → Bool) where
      abbrev pub clashes_at : ℕ → Bool
      clashes_at r = clash key same (point_at r) (point_at (r + 1))

      -- two points clash just where two neighbours in the order of the key do
      pub neighbours-and-pairs : f.count ≤ max_points → Likeness same → pair_in (clash key same) (points_in file f) ≡ some clashes_at (f.count - 1)
      unfolding points_in
      neighbours-and-pairs few alike =
          sorted-neighbours key same alike (ith_point file f) f.count (omega arith)
          ∙ some-ext (λ (r : ℕ). clash key same (ith_point file f (placed key_at f.count r)) (ith_point file f (placed key_at f.count (r + 1)))) clashes_at (f.count - 1)
          (λ r h. rw (entry_at f.count key_at r (omega arith), entry_at f.count key_at (r + 1) (omega arith)))

      -- what is found at two neighbours, by their keys and their places
      module _ (few : f.count ≤ max_points) (entries : List ℕ) (e : entries ≡ entries_of f.count key_at) (r : ℕ) (l : r + 1 < f.count) where
        pub same-key : get_or entries r 0 / packed_places ≡ get_or entries (r + 1) 0 / packed_places
            → {b : Bool} → b ≡ not (same (ith_point file f (get_or entries r 0 % packed_places)) (ith_point file f (get_or entries (r + 1) 0 % packed_places))) → clashes_at r ≡ b
        same-key k h = rw (eq-eqb (key (point_at r)) (key (point_at (r + 1))) (sym (entry_key f.count key_at few r (omega arith)) ∙ rw e at k ∙ entry_key f.count key_at few (r + 1) l)) (sym (rw e at h))

        pub other_key : (get_or entries r 0 / packed_places ≡ get_or entries (r + 1) 0 / packed_places → ⊥) → clashes_at r ≡ false
        other_key k = rw (ne_eqb (key (point_at r)) (key (point_at (r + 1))) (λ q. k (rw e (entry_key f.count key_at few r (omega arith) ∙ q ∙ sym (entry_key f.count key_at few (r + 1) l)))))

-- ---- cells in range

-- a point in range, by its patterns
pub record Ranged (p : Point) : Type 0 where
  pub cell : InRange p
  pub u : (3 ≤ biased p.u) × (biased p.u ≤ 16003)
  pub v : (3 ≤ biased p.v) × (biased p.v ≤ 16003)

pub ranged : (p : Point) → p.u < 2 ^ 32 → p.v < 2 ^ 32 → off_range p ≡ false → Ranged p
ranged p hu hv e = go (within (signed p.u)) (within (signed p.v)) refl refl e
  where
    go : (a b : Bool) → within (signed p.u) ≡ a → within (signed p.v) ≡ b → not a || not b ≡ false → Ranged p
    go true true f g h = record { cell = record { fits-u = hu; fits-v = hv; u = f; v = g }; u = biased-range p.u hu f; v = biased-range p.v hv g }
    go true false f g h = absurd (true≢false h)
    go false b f g h = absurd (true≢false h)

-- one key, one cell
pub cells-by-key : (p q : Point) → Ranged p → Ranged q → same_cell p q ≡ clash key_of never p q
cells-by-key p q r t = both_ways (same_cell p q) (eqb (key_of p) (key_of q) && true) to from ∙ refl
  where
    to : same_cell p q ≡ true → eqb (key_of p) (key_of q) && true ≡ true
    to e =
        let u : p.u ≡ q.u = eqb-true p.u q.u (and_parts (eqb p.u q.u) (eqb p.v q.v) e).0 in
        let v : p.v ≡ q.v = eqb-true p.v q.v (and_parts (eqb p.u q.u) (eqb p.v q.v) e).1 in
        rw (u, v, eq-eqb (key_of q) (key_of q) refl)

    from : eqb (key_of p) (key_of q) && true ≡ true → same_cell p q ≡ true
    from e =
        let k : key_of p ≡ key_of q = eqb-true (key_of p) (key_of q) (and_parts (eqb (key_of p) (key_of q)) true e).0 in
        let u : p.u ≡ q.u = omega (arith, k, r.cell.fits-u, t.cell.fits-u, r.u, t.u, r.v, t.v) in
        let v : p.v ≡ q.v = omega (arith, k, r.cell.fits-v, t.cell.fits-v, r.u, t.u, r.v, t.v) in
        and_from (eqb p.u q.u) (eqb p.v q.v) (eq-eqb p.u q.u u) (eq-eqb p.v q.v v)

module _ (file : List ℕ) (f : Layout) where
  -- no point has a fault
  pub none-off : (t : Point → Bool) → list_any t (points_in file f) ≡ false → (i : ℕ) → i < f.count → t (ith_point file f i) ≡ false
  unfolding points_in
  none-off t e i h = some-fails (λ (k : ℕ). t (ith_point file f k)) f.count (sym (any-list (ith_point file f) f.count t) ∙ e) i h

  pub all-ranged : Bytes file → list_any off_range (points_in file f) ≡ false → (i : ℕ) → i < f.count → Ranged (ith_point file f i)
  all-ranged b e i h = ranged (ith_point file f i) (le32-small file b (f.points + 20 * i)) (le32-small file b (f.points + 20 * i + 4)) (none-off off_range e i h)

  pub same-cells : Bytes file → list_any off_range (points_in file f) ≡ false → pair_in same_cell (points_in file f) ≡ pair_in (clash key_of never) (points_in file f)
  unfolding points_in
  same-cells b e =
      pair-ext (ith_point file f) f.count same_cell (clash key_of never)
      (λ i j ij jn. cells-by-key (ith_point file f i) (ith_point file f j) (all-ranged b e i (omega arith)) (all-ranged b e j jn))
