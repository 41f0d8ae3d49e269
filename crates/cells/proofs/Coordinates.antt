-- One coordinate of a cell plus the bias, as the parts of a key hold it. Assumes nothing.
use Rattle.std.proofs.Common.{◌≡◌, ℕ, suc, ◌+◌, ◌-◌, ◌<◌, ◌≤◌, Bool, true, false, cond, ◌&&◌, eqb, ltb, leb, ℤ, pos, negsuc, ◌+ℤ◌, ◌-ℤ◌, sym, refl, ap, ◌∙◌, arith, ltb-false, ltb-true, le-ltb, lt-ltb, eq-eqb, eqb-true, le-leb, leb-true}
use lib.IntN.{sub_ℕ}
use lib.Signed.{lt_z}
use Rattle.cells.specs.Points.{bias}
use Rattle.cells.specs.Cell.{within, agree}
use Rattle.cells.proofs.Edges.{agree_same, agree-true}
use Rattle.std.proofs.lemmas.Bool.{and_from, and_parts}
use Rattle.std.specs.Cmp.{both_ways}

-- a whole number as a difference: how far up it leads, and how far down
abbrev pub up_of : ℤ → ℕ
up_of (pos d) = d
up_of (negsuc d) = 0

abbrev pub down_of : ℤ → ℕ
down_of (pos d) = 0
down_of (negsuc d) = suc d

-- z plus the bias, for z not further down than that
abbrev pub lift : ℤ → ℕ
lift (pos n) = n + bias
lift (negsuc n) = bias - suc n

abbrev pub Liftable : ℤ → Type 0
Liftable (pos n) = Unit {0}
Liftable (negsuc n) = n < bias

-- ---- range

-- the ends of the range plus the bias
abbrev pub lowest : ℕ
lowest = bias - 8000

abbrev pub highest : ℕ
highest = bias + 8000

abbrev pub between_ends : ℕ → Bool
between_ends b = leb lowest b && leb b highest

pub ends-hold : (b : ℕ) → between_ends b ≡ true → (lowest ≤ b) × (b ≤ highest)
ends-hold b e = (leb-true lowest b (and_parts (leb lowest b) (leb b highest) e).0, leb-true b highest (and_parts (leb lowest b) (leb b highest) e).1)

pub ends-are : (b : ℕ) → lowest ≤ b → b ≤ highest → between_ends b ≡ true
ends-are b l m = and_from (leb lowest b) (leb b highest) (le-leb lowest b l) (le-leb b highest m)

pub within-lift : (z : ℤ) → within z ≡ between_ends (lift z)
within-lift (pos n) =
    both_ways (within (pos n)) (between_ends (lift (pos n))) (λ e. ends-are (n + bias) (omega arith) (omega (arith, leb-true n 8000 e)))
    (λ e. le-leb n 8000 (omega (arith, ends-hold (n + bias) e)))
within-lift (negsuc n) =
    both_ways (within (negsuc n)) (between_ends (lift (negsuc n)))
    (λ e. let l = leb-true n 7999 (and_parts (leb n 7999) true e).0 in ends-are (bias - suc n) (omega arith) (omega arith))
    (λ e. and_from (leb n 7999) true (le-leb n 7999 (omega (arith, ends-hold (bias - suc n) e))) refl)

pub lift-range : (z : ℤ) → within z ≡ true → (lowest ≤ lift z) × (lift z ≤ highest)
lift-range z e = ends-hold (lift z) (sym (within-lift z) ∙ e)

pub liftable : (z : ℤ) → within z ≡ true → Liftable z
liftable (pos n) e = tt
liftable (negsuc n) e = omega (arith, lift-range (negsuc n) e)

-- ---- one number, one lift, in order

pub lift-one : (a b : ℤ) → Liftable a → Liftable b → lift a ≡ lift b → a ≡ b
lift-one (pos a) (pos b) p q e = let d : a ≡ b = omega arith in ap pos d
lift-one (pos a) (negsuc b) p q e = absurd (omega arith)
lift-one (negsuc a) (pos b) p q e = absurd (omega arith)
lift-one (negsuc a) (negsuc b) p q e = let d : a ≡ b = omega arith in ap negsuc d

pub lift-agree : (a b : ℤ) → Liftable a → Liftable b → agree a b ≡ eqb (lift a) (lift b)
lift-agree a b p q =
    both_ways (agree a b) (eqb (lift a) (lift b)) (λ e. eq-eqb (lift a) (lift b) (ap lift (agree-true a b e)))
    (λ e. agree_same a b (lift-one a b p q (eqb-true (lift a) (lift b) e)))

pub lift-less : (a b : ℤ) → Liftable a → Liftable b → lt_z a b ≡ ltb (lift a) (lift b)
lift-less (pos a) (pos b) p q = both_ways (ltb a b) (ltb (a + bias) (b + bias)) (λ e. lt-ltb (a + bias) (b + bias) (omega (arith, ltb-true a b e))) (λ e. lt-ltb a b (omega (arith, ltb-true (a + bias) (b + bias) e)))
lift-less (pos a) (negsuc b) p q = sym (le-ltb (a + bias) (bias - suc b) (omega arith))
lift-less (negsuc a) (pos b) p q = sym (lt-ltb (bias - suc a) (b + bias) (omega arith))
lift-less (negsuc a) (negsuc b) p q =
    both_ways (ltb b a) (ltb (bias - suc a) (bias - suc b)) (λ e. lt-ltb (bias - suc a) (bias - suc b) (omega (arith, ltb-true b a e)))
    (λ e. lt-ltb b a (omega (arith, ltb-true (bias - suc a) (bias - suc b) e)))

-- ---- sums and differences

sub-lift : (a b : ℕ) → Liftable (sub_ℕ a b) → lift (sub_ℕ a b) + b ≡ a + bias
sub-lift a b h = go (ltb a b) refl h
  where
    go : (t : Bool) → ltb a b ≡ t → Liftable (cond t (negsuc (b - suc a)) (pos (a - b))) → lift (cond t (negsuc (b - suc a)) (pos (a - b))) + b ≡ a + bias
    go true e k = omega (arith, ltb-true a b e)
    go false e k = omega (arith, ltb-false a b e)

sub-liftable : (a b : ℕ) → b ≤ a + bias → Liftable (sub_ℕ a b)
sub-liftable a b h = go (ltb a b) refl
  where
    go : (t : Bool) → ltb a b ≡ t → Liftable (cond t (negsuc (b - suc a)) (pos (a - b)))
    go true e = omega (arith, ltb-true a b e)
    go false e = tt

-- a part of a key, less the bias
pub part-liftable : (a : ℕ) → Liftable (pos a -ℤ pos bias)
part-liftable a = sub-liftable a bias (omega arith)

pub part-lift : (a : ℕ) → lift (pos a -ℤ pos bias) ≡ a
part-lift a = omega (arith, sub-lift a bias (part-liftable a))

-- z + a
pub add-lift : (z a : ℤ) → Liftable z → Liftable (z +ℤ a) → lift (z +ℤ a) + down_of a ≡ lift z + up_of a
add-lift (pos n) (pos d) p q = omega arith
add-lift (pos n) (negsuc d) p q = omega (arith, sub-lift n (suc d) q)
add-lift (negsuc n) (pos d) p q = omega (arith, sub-lift d (suc n) q)
add-lift (negsuc n) (negsuc d) p q = omega arith

add-liftable : (z a : ℤ) → within z ≡ true → down_of a ≤ lowest → Liftable (z +ℤ a)
add-liftable (pos n) (pos d) e h = tt
add-liftable (pos n) (negsuc d) e h = sub-liftable n (suc d) (omega arith)
add-liftable (negsuc n) (pos d) e h = sub-liftable d (suc n) (omega (arith, liftable (negsuc n) e))
add-liftable (negsuc n) (negsuc d) e h = omega (arith, lift-range (negsuc n) e)

-- e - 2
less_two : (e : ℕ) → (up_of (pos e -ℤ pos 2) + 2 ≡ e + down_of (pos e -ℤ pos 2)) × (down_of (pos e -ℤ pos 2) ≤ 2)
less_two e = go (ltb e 2) refl
  where
    go : (t : Bool) → ltb e 2 ≡ t → (up_of (cond t (negsuc (2 - suc e)) (pos (e - 2))) + 2 ≡ e + down_of (cond t (negsuc (2 - suc e)) (pos (e - 2)))) × (down_of (cond t (negsuc (2 - suc e)) (pos (e - 2))) ≤ 2)
    go true h = (omega (arith, ltb-true e 2 h), omega (arith, ltb-true e 2 h))
    go false h = (omega (arith, ltb-false e 2 h), omega arith)

-- z + (e - 2)
pub two-off : (z : ℤ) (e : ℕ) → within z ≡ true → Liftable (z +ℤ (pos e -ℤ pos 2)) × (lift (z +ℤ (pos e -ℤ pos 2)) + 2 ≡ lift z + e)
two-off z e h =
    let a = add-liftable z (pos e -ℤ pos 2) h (omega (arith, (less_two e).1)) in
    (a, omega (arith, add-lift z (pos e -ℤ pos 2) (liftable z h) a, (less_two e).0))
