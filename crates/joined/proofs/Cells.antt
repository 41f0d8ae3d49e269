-- The cells of moved points, and a key for cells to 24,000 each way. Assumes nothing.
use mathlib.Core.Path.{◌≡◌, refl, sym, ap, ◌∙◌}
use mathlib.Core.Bool.{Bool, true, false, cond, ◌&&◌}
use Prim.Native.Nat.{ℕ, suc, ◌+◌, ◌-◌, ◌*◌, ◌/◌, ◌%◌, ◌^◌, ◌≤◌, ◌<◌}
use native.Mathlib.Omega.{arith}
use lib.Dec.{leb, ltb, eqb}
use lib.IntN.{ℤ, pos, negsuc, sub_ℕ, ◌+ℤ◌}
use mir.Syntax.{w32}
use mir.Val.{SFits, of_z}
use mir.ValLaws.{to_z-of_z}
use borrow.Author.Tests.{ltb-true, ltb-false, lt-ltb, eqb-true, eq-eqb, leb-true}
use Rattle.std.proofs.lemmas.Bool.{and_from, and_parts, not-false}
use Rattle.std.specs.Cmp.{both_ways}
use Rattle.cells.specs.Points.{Point, stride, biased, key_of}
use Rattle.cells.specs.Cell.{Cell, signed, within, cell_of, moved, InRange}
use Rattle.cells.proofs.Coordinates.{lift, lift-range, part-lift}
use Rattle.cells.proofs.Keys.{biased-range, key-cell}
use Rattle.cells.proofs.Edges.{same-cell}
use Rattle.points.specs.Refusals.{same_cell, comes_before}
use Rattle.merged.specs.Sources.{widened, own}
use Rattle.joined.specs.declared.moves.Move.{Move}
use Rattle.joined.specs.Joined.{moved_by, far}
use Rattle.joined.specs.Halved.{raised}

-- u or v plus 24,003
abbrev pub spread : ℕ → ℕ
spread b = (b + 24003) % 2 ^ 32

-- cells by u, then v, are in the order of these keys
abbrev pub wide_of : Point → ℕ
wide_of p = spread p.u * 65536 + spread p.v

-- u and v lie in −24,000 to 24,000, or nearly
pub record Near (p : Point) : Type 0 where
  pub fits-u : p.u < 2 ^ 32
  pub fits-v : p.v < 2 ^ 32
  pub u : spread p.u < 65536
  pub v : spread p.v < 65536

-- ---- one coordinate

pub near-zero : (z : ℤ) → far z ≡ false → raised z ≤ 32000
near-zero (pos n) e = omega (arith, leb-true n 16000 (not-false (leb n 16000) e))
near-zero (negsuc n) e = omega arith

far-down : (n : ℕ) → far (negsuc n) ≡ false → n < 16000
far-down n e = omega (arith, leb-true n 15999 (and_parts (leb n 15999) true (not-false (leb n 15999 && true) e)).0)

-- a whole number of 32 bits, whose pattern plus 24,003 is n
record Small (x : ℤ) (n : ℕ) : Type 0 where
  pub fits : SFits w32 x
  pub pattern : of_z w32 x < 2 ^ 32
  pub spread-is : spread (of_z w32 x) ≡ n

small-up : (a n : ℕ) → a ≤ 24000 → n ≡ a + 24003 → Small (pos a) n
small-up a n h e = record { fits = record { sfits = omega arith }; pattern = omega arith; spread-is = omega arith }

small-down : (a n : ℕ) → a < 24000 → n + suc a ≡ 24003 → Small (negsuc a) n
small-down a n h e = record { fits = record { sfits = omega arith }; pattern = omega arith; spread-is = omega arith }

small-difference : (a b n : ℕ) → a ≤ 24000 → b ≤ 24000 → n + b ≡ a + 24003 → Small (sub_ℕ a b) n
small-difference a b n h k e = go (ltb a b) refl
  where
    go : (t : Bool) → ltb a b ≡ t → Small (cond t (negsuc (b - suc a)) (pos (a - b))) n
    go true l = small-down (b - suc a) n (omega (arith, ltb-true a b l)) (omega (arith, ltb-true a b l))
    go false l = small-up (a - b) n (omega arith) (omega (arith, ltb-false a b l))

-- one that is in range, and an offset
small-sum : (s z : ℤ) → within s ≡ true → far z ≡ false → Small (s +ℤ z) (lift s + raised z)
small-sum (pos a) (pos d) e f = let l = lift-range (pos a) e in let k = near-zero (pos d) f in small-up (a + d) (a + 8003 + (d + 16000)) (omega arith) (omega arith)
small-sum (pos a) (negsuc d) e f = let l = lift-range (pos a) e in let k = far-down d f in small-difference a (suc d) (a + 8003 + (16000 - suc d)) (omega arith) (omega arith) (omega arith)
small-sum (negsuc a) (pos d) e f = let l = lift-range (negsuc a) e in let k = near-zero (pos d) f in small-difference d (suc a) (8003 - suc a + (d + 16000)) (omega arith) (omega arith) (omega arith)
small-sum (negsuc a) (negsuc d) e f = let l = lift-range (negsuc a) e in let k = far-down d f in small-down (suc (a + d)) (8003 - suc a + (16000 - suc d)) (omega arith) (omega arith)

-- ---- one point

-- the parts of its key
record Parts (p : Point) : Type 0 where
  pub u : (3 ≤ biased p.u) × (biased p.u ≤ 16003)
  pub v : (3 ≤ biased p.v) × (biased p.v ≤ 16003)
  pub lift-u : lift (signed p.u) ≡ key_of p / stride
  pub lift-v : lift (signed p.v) ≡ key_of p % stride

parts : (p : Point) → InRange p → Parts p
parts p r = record {
  u = biased-range p.u r.fits-u r.u;
  v = biased-range p.v r.fits-v r.v;
  lift-u = ap (λ (c : Cell). lift c.u) (sym (key-cell p r)) ∙ part-lift (key_of p / stride);
  lift-v = ap (λ (c : Cell). lift c.v) (sym (key-cell p r)) ∙ part-lift (key_of p % stride);
}

pub near-own : (p : Point) → InRange p → Near p
near-own p r = let q = parts p r in record { fits-u = r.fits-u; fits-v = r.fits-v; u = omega (arith, q.u); v = omega (arith, q.v) }

pub wide-own : (p : Point) → InRange p → wide_of p ≡ widened own own (key_of p)
wide-own p r = let q = parts p r in omega (arith, q.u, q.v, r.fits-u, r.fits-v)

-- the numbers of a move that number 16 does not concern
pub record Allowed (m : Move) : Type 0 where
  pub u : far m.du ≡ false
  pub v : far m.dv ≡ false

module _ (m : Move) (o : Allowed m) (p : Point) (r : InRange p) where
  moved-u : Small (signed p.u +ℤ m.du) (lift (signed p.u) + raised m.du)
  moved-u = small-sum (signed p.u) m.du r.u o.u

  moved-v : Small (signed p.v +ℤ m.dv) (lift (signed p.v) + raised m.dv)
  moved-v = small-sum (signed p.v) m.dv r.v o.v

  -- "Right cells move by a given whole offset in u and v"
  pub cell-moves : cell_of (moved_by m p) ≡ moved m.du m.dv (cell_of p)
  cell-moves = same-cell (to_z-of_z w32 (signed p.u +ℤ m.du) moved-u.fits) (to_z-of_z w32 (signed p.v +ℤ m.dv) moved-v.fits)

  pub near-moved : Near (moved_by m p)
  near-moved =
      let ru = lift-range (signed p.u) r.u in
      let rv = lift-range (signed p.v) r.v in
      record {
        fits-u = moved-u.pattern;
        fits-v = moved-v.pattern;
        u = omega (arith, moved-u.spread-is, ru, near-zero m.du o.u);
        v = omega (arith, moved-v.spread-is, rv, near-zero m.dv o.v);
      }

  pub wide-moved : wide_of (moved_by m p) ≡ widened (raised m.du) (raised m.dv) (key_of p)
  wide-moved = let q = parts p r in rw (moved-u.spread-is, moved-v.spread-is, q.lift-u, q.lift-v)

-- ---- two points

one-spread : (a b : ℕ) → a < 2 ^ 32 → b < 2 ^ 32 → spread a ≡ spread b → a ≡ b
one-spread a b h k e = omega arith

by-digits : (a b c d : ℕ) → b < 65536 → d < 65536 → a * 65536 + b ≡ c * 65536 + d → (a ≡ c) × (b ≡ d)
by-digits a b c d h k e = (omega arith, omega arith)

-- one wide key, one cell
pub cells-by-wide : (p q : Point) → Near p → Near q → eqb (wide_of p) (wide_of q) ≡ same_cell p q
cells-by-wide p q r s = both_ways (eqb (wide_of p) (wide_of q)) (same_cell p q) to from
  where
    to : eqb (wide_of p) (wide_of q) ≡ true → same_cell p q ≡ true
    to e =
        let d = by-digits (spread p.u) (spread p.v) (spread q.u) (spread q.v) r.v s.v (eqb-true (wide_of p) (wide_of q) e) in
        and_from (eqb p.u q.u) (eqb p.v q.v) (eq-eqb p.u q.u (one-spread p.u q.u r.fits-u s.fits-u d.0)) (eq-eqb p.v q.v (one-spread p.v q.v r.fits-v s.fits-v d.1))

    from : same_cell p q ≡ true → eqb (wide_of p) (wide_of q) ≡ true
    from e =
        let w = and_parts (eqb p.u q.u) (eqb p.v q.v) e in
        let u = eqb-true p.u q.u w.0 in
        let v = eqb-true p.v q.v w.1 in
        eq-eqb (wide_of p) (wide_of q) (omega arith)

-- keys and wide keys have one order
pub widened-less : (a b k l : ℕ) → b ≤ 32000 → k < l → widened a b k < widened a b l
widened-less a b k l h e = omega arith

pub widened-one : (a b k l : ℕ) → b ≤ 32000 → widened a b k ≡ widened a b l → k ≡ l
widened-one a b k l h e = omega arith

pub order-by-wide : (p q : Point) → InRange p → InRange q → comes_before p q ≡ ltb (wide_of p) (wide_of q)
order-by-wide p q r s =
    rw (wide-own p r, wide-own q s)
    (both_ways (ltb (key_of p) (key_of q)) (ltb (widened own own (key_of p)) (widened own own (key_of q)))
    (λ e. lt-ltb (widened own own (key_of p)) (widened own own (key_of q)) (widened-less own own (key_of p) (key_of q) (omega arith) (ltb-true (key_of p) (key_of q) e)))
    (λ e. lt-ltb (key_of p) (key_of q) (back (key_of p) (key_of q) (ltb-true (widened own own (key_of p)) (widened own own (key_of q)) e))))
  where
    back : (k l : ℕ) → widened own own k < widened own own l → k < l
    back k l e = omega arith
