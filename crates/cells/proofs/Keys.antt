-- Keys and cells: the key of a point in range is the key of its cell, and keys are in the order of their cells. Assumes nothing.
use Rattle.std.proofs.Common.{◌≡◌, ℕ, suc, ◌+◌, ◌-◌, ◌*◌, ◌/◌, ◌%◌, ◌^◌, ◌<◌, ◌≤◌, Bool, true, false, not, ◌&&◌, ◌||◌, eqb, ltb, List, length, get_or, ℤ, pos, negsuc, ◌+ℤ◌, sym, refl, ap, ◌∙◌, arith, ltb-false, ltb-true, le-ltb, lt-ltb, eq-eqb, eqb-true}
use mathlib.Core.Path.{fun_ext}
use Prim.{Dec, yes, no}
use native.Mathlib.Decide.{dec_lt}
use mir.Val.{sel}
use Rattle.folds.specs.Lists.{list_of}
use Rattle.folds.proofs.Lists.{list_at, list_over}
use Rattle.folds.specs.Column.{column}
use Rattle.folds.proofs.Column.{column-at, column-over}
use Rattle.view.specs.View.{max_points}
use Rattle.cells.specs.Points.{Point, nowhere, bias, stride, biased, key_of, keys_of}
use Rattle.cells.specs.Cell.{Cell, signed, within, cell_of, InRange, CellInRange, before, moved, agree, cell_of_key, cells_at, cells_of}
use Rattle.cells.proofs.Coordinates.{up_of, down_of, lift, Liftable, lowest, highest, between_ends, ends-hold, ends-are, within-lift, lift-range, liftable, lift-one, lift-agree, lift-less, part-liftable, part-lift, add-lift}
use Rattle.cells.proofs.Edges.{same-cell}
use Rattle.std.specs.Cmp.{both_ways}

-- ---- from patterns

-- u (or v) lies in −8,000 to 8,000 just where its pattern plus the bias is between the ends plus the bias
pub range-is : (b : ℕ) → b < 2 ^ 32 → within (signed b) ≡ between_ends (biased b)
range-is b h = go (ltb b (2 ^ 31)) refl
  where
    go : (s : Bool) → ltb b (2 ^ 31) ≡ s → within (sel s (pos b) (negsuc (2 ^ 32 - suc b))) ≡ between_ends (biased b)
    go true e = let l = ltb-true b (2 ^ 31) e in let m : biased b ≡ b + bias = omega arith in rw m (within-lift (pos b))
    go false e =
        let l = ltb-false b (2 ^ 31) e in
        both_ways (within (negsuc (2 ^ 32 - suc b))) (between_ends (biased b))
        (λ t. let r = lift-range (negsuc (2 ^ 32 - suc b)) t in ends-are (biased b) (omega arith) (omega arith))
        (λ t. let r = ends-hold (biased b) t in within-lift (negsuc (2 ^ 32 - suc b)) ∙ ends-are (bias - suc (2 ^ 32 - suc b)) (omega arith) (omega arith))

pub biased-range : (b : ℕ) → b < 2 ^ 32 → within (signed b) ≡ true → (lowest ≤ biased b) × (biased b ≤ highest)
biased-range b h e = ends-hold (biased b) (sym (range-is b h) ∙ e)

biased-is : (b : ℕ) → b < 2 ^ 32 → within (signed b) ≡ true → biased b ≡ lift (signed b)
biased-is b h t = go (ltb b (2 ^ 31)) refl t
  where
    go : (s : Bool) → ltb b (2 ^ 31) ≡ s → within (sel s (pos b) (negsuc (2 ^ 32 - suc b))) ≡ true → biased b ≡ lift (sel s (pos b) (negsuc (2 ^ 32 - suc b)))
    go true e t = omega (arith, ltb-true b (2 ^ 31) e)
    go false e t = omega (arith, ltb-false b (2 ^ 31) e, lift-range (negsuc (2 ^ 32 - suc b)) t)

-- the cell with a point's key is the point's
pub key-cell : (p : Point) → InRange p → cell_of_key (key_of p) ≡ cell_of p
key-cell p r =
    let u = biased-is p.u r.fits-u r.u in
    let v = biased-is p.v r.fits-v r.v in
    let m = lift-range (cell_of p).v r.v in
    same-cell
    (lift-one _ (cell_of p).u (part-liftable (key_of p / stride)) (liftable (cell_of p).u r.u) (part-lift (key_of p / stride) ∙ omega (arith, u, v, m)))
    (lift-one _ (cell_of p).v (part-liftable (key_of p % stride)) (liftable (cell_of p).v r.v) (part-lift (key_of p % stride) ∙ omega (arith, u, v, m)))

-- one key, one cell
pub one_cell : (p q : Point) → InRange p → InRange q → key_of p ≡ key_of q → cell_of p ≡ cell_of q
one_cell p q r s e = sym (key-cell p r) ∙ ap cell_of_key e ∙ key-cell q s

pub cell_at : (ps : List Point) (k : ℕ) → k < length ps → cells_of ps k ≡ cell_of (get_or ps k nowhere)
unfolding cells_of
cell_at ps k h = list_at (length ps) (λ (k : ℕ). cell_of (get_or ps k nowhere)) k (cell_of_key 0) h

-- an array of the keys of points gives their cells
pub cells_are : (ps : List Point) → ((k : ℕ) → k < length ps → InRange (get_or ps k nowhere)) → cells_at (keys_of ps) ≡ cells_of ps
unfolding keys_of cells_of
cells_are ps inside = fun_ext (λ k. go k (dec_lt k (length ps)))
  where
    key : ℕ → ℕ
    key k = key_of (get_or ps k nowhere)

    cell : ℕ → Cell
    cell k = cell_of (get_or ps k nowhere)

    go : (k : ℕ) → Dec (k < length ps) → cell_of_key (get_or (column max_points 0 (length ps) key) k 0) ≡ get_or (list_of (length ps) cell) k (cell_of_key 0)
    go k (yes h) = rw (column-at max_points 0 (length ps) key k h, list_at (length ps) cell k (cell_of_key 0) h) (key-cell (get_or ps k nowhere) (inside k h))
    go k (no x) = rw (column-over max_points 0 (length ps) key k (omega (arith, x)), list_over (length ps) cell k (cell_of_key 0) (omega (arith, x)))

-- ---- the parts of keys

pub same-u : (a b : ℕ) → agree (cell_of_key a).u (cell_of_key b).u ≡ eqb (a / stride) (b / stride)
same-u a b = lift-agree (cell_of_key a).u (cell_of_key b).u (part-liftable (a / stride)) (part-liftable (b / stride)) ∙ rw (part-lift (a / stride), part-lift (b / stride))

pub same-v : (a b : ℕ) → agree (cell_of_key a).v (cell_of_key b).v ≡ eqb (a % stride) (b % stride)
same-v a b = lift-agree (cell_of_key a).v (cell_of_key b).v (part-liftable (a % stride)) (part-liftable (b % stride)) ∙ rw (part-lift (a % stride), part-lift (b % stride))

-- the order of keys is the order of cells, by u, then v
keys-order : (a b : ℕ) → ltb a b ≡ before (cell_of_key a) (cell_of_key b)
keys-order a b =
    let liftable-u : (k : ℕ) → Liftable (cell_of_key k).u = λ k. part-liftable (k / stride) in
    let liftable-v : (k : ℕ) → Liftable (cell_of_key k).v = λ k. part-liftable (k % stride) in
    rw (
      lift-less (cell_of_key a).u (cell_of_key b).u (liftable-u a) (liftable-u b),
      lift-less (cell_of_key b).u (cell_of_key a).u (liftable-u b) (liftable-u a),
      lift-less (cell_of_key a).v (cell_of_key b).v (liftable-v a) (liftable-v b),
      part-lift (a / stride),
      part-lift (b / stride),
      part-lift (a % stride),
      part-lift (b % stride),
    )
    (go (dec_lt (a / stride) (b / stride)) (dec_lt (b / stride) (a / stride)) (dec_lt (a % stride) (b % stride)))
  where
    go : Dec (a / stride < b / stride) → Dec (b / stride < a / stride) → Dec (a % stride < b % stride) → ltb a b ≡ ltb (a / stride) (b / stride) || (not (ltb (b / stride) (a / stride)) && ltb (a % stride) (b % stride))
    go (yes l) m n = rw (lt-ltb (a / stride) (b / stride) l) (lt-ltb a b (omega arith))
    go (no x) (yes m) n = rw (le-ltb (a / stride) (b / stride) (omega arith), lt-ltb (b / stride) (a / stride) m) (le-ltb a b (omega arith))
    go (no x) (no y) (yes n) = rw (le-ltb (a / stride) (b / stride) (omega arith), le-ltb (b / stride) (a / stride) (omega arith), lt-ltb (a % stride) (b % stride) n) (lt-ltb a b (omega arith))
    go (no x) (no y) (no z) = rw (le-ltb (a / stride) (b / stride) (omega arith), le-ltb (b / stride) (a / stride) (omega arith), le-ltb (a % stride) (b % stride) (omega arith)) (le-ltb a b (omega arith))

pub key-order : (p q : Point) → InRange p → InRange q → ltb (key_of p) (key_of q) ≡ before (cell_of p) (cell_of q)
key-order p q r s = keys-order (key_of p) (key_of q) ∙ ap (λ (c : Cell). before c (cell_of_key (key_of q))) (key-cell p r) ∙ ap (before (cell_of p)) (key-cell q s)

-- ---- keys of cells in range

-- the parts leave room for three cells each way
pub parts-range : (key : ℕ) → CellInRange (cell_of_key key) → (lowest ≤ key / stride) × (key / stride ≤ highest) × (lowest ≤ key % stride) × (key % stride ≤ highest)
parts-range key r =
    let a = rw (part-lift (key / stride)) at (lift-range (cell_of_key key).u r.u) in
    let b = rw (part-lift (key % stride)) at (lift-range (cell_of_key key).v r.v) in
    (a.0, a.1, b.0, b.1)

pub small-key : (key : ℕ) → CellInRange (cell_of_key key) → key < 2 ^ 28
small-key key r = omega (arith, parts-range key r)

pub key-small : (p : Point) → InRange p → key_of p < 2 ^ 28
key-small p r = small-key (key_of p) (rw (key-cell p r) (record { u = r.u; v = r.v }))

-- ---- a move of cells as a move of keys

abbrev pub key_up : ℤ → ℤ → ℕ
key_up a b = up_of a * stride + up_of b

abbrev pub key_down : ℤ → ℤ → ℕ
key_down a b = down_of a * stride + down_of b

-- two numbers are the same before a move just where they are after it
pub same_test : (i j k l up down : ℕ) → i + down ≡ k + up → j + down ≡ l + up → eqb i j ≡ eqb k l
same_test i j k l up down e f = both_ways (eqb i j) (eqb k l) (λ t. eq-eqb k l (omega (arith, eqb-true i j t))) (λ t. eq-eqb i j (omega (arith, eqb-true k l t)))

pub key-moved : (a b : ℤ) (p q : Point) → InRange p → InRange q → cell_of q ≡ moved a b (cell_of p) → key_of q + key_down a b ≡ key_of p + key_up a b
key-moved a b p q r s e =
    omega (
      arith,
      by-lift (cell_of p).u a (cell_of q).u (liftable (cell_of p).u r.u) (liftable (cell_of q).u s.u) (ap (λ (c : Cell). c.u) e),
      by-lift (cell_of p).v b (cell_of q).v (liftable (cell_of p).v r.v) (liftable (cell_of q).v s.v) (ap (λ (c : Cell). c.v) e),
      biased-is p.u r.fits-u r.u,
      biased-is p.v r.fits-v r.v,
      biased-is q.u s.fits-u s.u,
      biased-is q.v s.fits-v s.v,
    )
  where
    by-lift : (z a x : ℤ) → Liftable z → Liftable x → x ≡ z +ℤ a → lift x + down_of a ≡ lift z + up_of a
    by-lift z a x p q e = rw (← e) at (add-lift z a p (rw e at q))
