-- The order of f32 numbers that are not negative, of magnitudes, and rounding along it: a product by a positive number does not turn it round.
-- Assumes nothing.
use mathlib.Core.Path.{◌≡◌, refl, sym, subst}
use mathlib.Core.Logic.{◌⊎◌, inl, inr}
use mathlib.Core.Bool.{Bool, true, false, cond, not, ◌&&◌, ◌||◌, true≢false, false≢true}
use Prim.Native.Nat.{ℕ, suc, ◌+◌, ◌*◌, ◌^◌, ◌≤◌, ◌<◌}
use native.Mathlib.Nat.{le_refl, le_of_lt, le_of_eq, not-le_of_lt, lt_of_not-le}
use native.Mathlib.Omega.{arith}
use lib.Dec.{T, ltb, eqb, ltb→lt, lt→ltb, eqb→eq}
use borrow.Author.Tests.{lt-ltb, le-ltb, ltb-true, ltb-false, ne_eqb}
use lib.IntN.{ℤ}
use lib.Ieee.{Float, nan, inf, fin, Format, binary32, up, down, low, prec, emax, is_nan, lt, le, eq, add, sum, mul, round, units, odd, of_bits}
use lib.Ieee.Exact.{HasValue, odd_sign}
use lib.Ieee.Fits.{round_is, down_pos, and_l}
use lib.Ieee.Positive.{num, den, positive, above, mul_mono, cross→le, through, first_pos}
use Rattle.float.specs.Scalar.{abs_of}

-- neither a NaN nor of negative sign
abbrev pub plain : Float → Bool
plain nan = false
plain (inf s) = not s
plain (fin s m e) = not s

-- ---- a claim on such a number, on two, and on a finite one above 0: the cases that there are

pub plain-cases : (P : Float → Type 0) → P (inf false) → ((m : ℕ) (e : ℤ) → P (fin false m e)) → (x : Float) → T (plain x) → P x
plain-cases P i f nan p = absurd p
plain-cases P i f (inf true) p = absurd p
plain-cases P i f (inf false) p = i
plain-cases P i f (fin true m e) p = absurd p
plain-cases P i f (fin false m e) p = f m e

pub plain-pair : (P : Float → Float → Type 0) → P (inf false) (inf false) → ((n : ℕ) (d : ℤ) → P (inf false) (fin false n d)) → ((m : ℕ) (e : ℤ) → P (fin false m e) (inf false))
    → ((m : ℕ) (e : ℤ) (n : ℕ) (d : ℤ) → P (fin false m e) (fin false n d)) → (x y : Float) → T (plain x) → T (plain y) → P x y
plain-pair P ii fi if ff x y p q =
    plain-cases (λ (a : Float). P a y) (plain-cases (λ (b : Float). P (inf false) b) ii fi y q) (λ m e. plain-cases (λ (b : Float). P (fin false m e) b) (if m e) (ff m e) y q) x p

pub positive-cases : (P : Float → Type 0) → ((m : ℕ) (e : ℤ) → 0 < m → P (fin false m e)) → (x : Float) → T (positive x) → P x
positive-cases P f nan p = absurd p
positive-cases P f (inf s) p = absurd p
positive-cases P f (fin true m e) p = absurd p
positive-cases P f (fin false m e) p = f m e (ltb→lt 0 m p)

pub above-plain : (x : Float) → T (above x) → T (plain x)
above-plain nan p = absurd p
above-plain (inf s) p = p
above-plain (fin true m e) p = absurd p
above-plain (fin false m e) p = tt

-- ---- rounding

pub plain_value : (x : Float) (a c : ℕ) → HasValue x false a c → T (plain x)
plain_value nan a c h = absurd h
plain_value (inf s) a c h = absurd h
plain_value (fin true m e) a c h = absurd (true≢false h.0)
plain_value (fin false m e) a c h = tt

plain-units : (f : Format) (q k : ℕ) → T (plain (units f false q k))
unfolding units
plain-units f q k = go (ltb (q * 2 ^ k) (2 ^ (low f + suc (emax f))))
  where
    go : (t : Bool) → T (plain (cond t (odd (suc (prec f)) false q k (low f)) (inf false)))
    go true = plain_value (odd (suc (prec f)) false q k (low f)) (q * 2 ^ k) (2 ^ low f) (odd_sign (suc (prec f)) false q k (low f))
    go false = tt

pub plain-round : (f : Format) (a b : ℕ) → T (plain (round f false a b))
plain-round f a b = subst (λ (z : Float). T (plain z)) (sym (round_is f false a b)) (plain-units f _ _)

-- ---- sums and squares

pub plain-number : (x : Float) → T (plain x) → is_nan x ≡ false
unfolding is_nan
plain-number x p = plain-cases (λ (a : Float). is_nan a ≡ false) refl (λ m e. refl) x p

pub sum-plain : (u v : Float) → T (plain u) → T (plain v) → T (plain (add binary32 u v))
unfolding add sum
sum-plain u v p q =
    plain-pair (λ (a b : Float). T (plain (add binary32 a b))) tt (λ n d. tt) (λ m e. tt)
    (λ m e n d. plain-round binary32 (m * up e * down d + n * up d * down e) (down e * down d)) u v p q

pub square-plain : (x : Float) → is_nan x ≡ false → T (plain (mul binary32 x x))
unfolding mul is_nan
square-plain nan p = absurd (true≢false p)
square-plain (inf true) p = tt
square-plain (inf false) p = tt
square-plain (fin true m e) p = plain-round binary32 (m * up e * (m * up e)) (down e * down e)
square-plain (fin false m e) p = plain-round binary32 (m * up e * (m * up e)) (down e * down e)

-- ---- the order

-- x / p ≤ y / q < z / r
pub strictly : (x y z p q r : ℕ) → 0 < p → x * q ≤ y * p → y * r < z * q → x * r < z * p
strictly x y z p q r P h k = lt_of_not-le (λ (g : z * p ≤ x * r). not-le_of_lt k (through z x y r p q P g h))

-- x / p < y / q ≤ z / r
between : (x y z p q r : ℕ) → 0 < r → x * q < y * p → y * r ≤ z * q → x * r < z * p
between x y z p q r R h k = lt_of_not-le (λ (g : z * p ≤ x * r). not-le_of_lt h (through y z x q r p R k g))

or_split : (a b : Bool) → T (a || b) → T a ⊎ T b
or_split true b t = inl tt
or_split false b t = inr t

pub lt-or-eq : (a b : ℕ) → T (ltb a b || (eqb a b && true)) → a ≤ b
lt-or-eq a b t = elim (or_split (ltb a b) (eqb a b && true) t) [ inl u ↦ le_of_lt (ltb→lt a b u) | inr u ↦ le_of_eq (eqb→eq a b (and_l (eqb a b) true u)) ]

-- nothing is over infinity
pub nothing-over : (z : Float) → lt (inf false) z ≡ true → ⊥
unfolding lt
nothing-over nan h = false≢true h
nothing-over (inf t) h = false≢true h
nothing-over (fin t k g) h = false≢true h

finite-after : (m n : ℕ) (e d : ℤ) (x : Float) → m * up e * down d ≤ n * up d * down e → lt (fin false n d) x ≡ true → lt (fin false m e) x ≡ true
unfolding lt
finite-after m n e d nan c h = absurd (false≢true h)
finite-after m n e d (inf true) c h = absurd (false≢true h)
finite-after m n e d (inf false) c h = refl
finite-after m n e d (fin true k g) c h = absurd (false≢true h)
finite-after m n e d (fin false k g) c h =
    lt-ltb (m * up e * down g) (k * up g * down e)
    (strictly (m * up e) (n * up d) (k * up g) (down e) (down d) (down g) (down_pos e) c (ltb-true (n * up d * down g) (k * up g * down d) h))

-- u ≤ v < x
pub lt-after : (u v x : Float) → T (plain u) → T (plain v) → T (le u v) → lt v x ≡ true → lt u x ≡ true
unfolding le
lt-after u v x p q =
    plain-pair (λ (a b : Float). T (le a b) → lt b x ≡ true → lt a x ≡ true) (λ c h. h) (λ n d c h. absurd c) (λ m e c h. absurd (nothing-over x h))
    (λ m e n d c h. finite-after m n e d x (lt-or-eq (m * up e * down d) (n * up d * down e) c) h) u v p q

-- of two above zero, the one that is not over the other is at most it
pub not-over : (a b : Float) → T (above a) → T (above b) → lt b a ≡ false → T (le a b)
unfolding le lt eq
not-over a b p q =
    plain-pair (λ (x y : Float). T (above x) → T (above y) → lt y x ≡ false → T (le x y)) (λ p q h. tt) (λ n d p q h. absurd (true≢false h)) (λ m e p q h. tt)
    (λ m e n d p q h. cross→le (fin false m e) (fin false n d) p q (ltb-false (n * up d * down e) (m * up e * down d) h)) a b (above-plain a p) (above-plain b q) p q

pub under : (a b : Float) → lt b a ≡ true → T (le b a)
unfolding le
under a b h = rw h tt

-- ---- the product by a positive c

times-inf : (c : Float) → T (positive c) → mul binary32 c (inf false) ≡ inf false
unfolding mul
times-inf c p = positive-cases (λ (x : Float). mul binary32 x (inf false) ≡ inf false) (λ m e h. rw (ne_eqb m 0 (λ z. omega (arith, z)))) c p

pub mul-plain : (c a : Float) → T (positive c) → T (above a) → T (plain (mul binary32 c a))
unfolding mul
mul-plain c a p q =
    plain-cases (λ (x : Float). T (plain (mul binary32 c x))) (rw (times-inf c p) tt)
    (λ n d. positive-cases (λ (x : Float). T (plain (mul binary32 x (fin false n d)))) (λ m e h. plain-round binary32 (m * up e * (n * up d)) (down e * down d)) c p) a (above-plain a q)

pub plain-le-inf : (u : Float) → T (plain u) → T (le u (inf false))
unfolding le
plain-le-inf u p = plain-cases (λ (x : Float). T (le x (inf false))) tt (λ m e. tt) u p

pub mul-le : (c a b : Float) → T (positive c) → T (above a) → T (above b) → T (le a b) → T (le (mul binary32 c a) (mul binary32 c b))
mul-le c a b r p q h =
    plain-pair (λ (x y : Float). T (above x) → T (above y) → T (le x y) → T (le (mul binary32 c x) (mul binary32 c y))) (λ p q h. at-inf (inf false) p)
    (λ n d p q h. absurd (unfold le in h)) (λ m e p q h. at-inf (fin false m e) p)
    (λ m e n d p q h. mul_mono binary32 c c (fin false m e) (fin false n d) r r p q (cross→le c c r r (le_refl (num c * den c))) h) a b (above-plain a p) (above-plain b q) p q h
  where
    at-inf : (x : Float) → T (above x) → T (le (mul binary32 c x) (mul binary32 c (inf false)))
    at-inf x p = rw (times-inf c r) (plain-le-inf (mul binary32 c x) (mul-plain c x r p))

-- ---- above zero

pub above_zero : (a : Float) → lt (of_bits binary32 0) a ≡ true → T (above a)
unfolding lt of_bits
above_zero nan h = absurd (false≢true h)
above_zero (inf true) h = absurd (false≢true h)
above_zero (inf false) h = tt
above_zero (fin true m e) h = absurd (false≢true h)
above_zero (fin false m e) h = lt→ltb 0 m (first_pos m (up e) (omega (arith, ltb-true (0 * down e) (m * up e * 1) h)))

-- ---- magnitudes: nothing is below a NaN, and a NaN is below nothing

pub below-through : (x y z : Float) → lt (abs_of x) (abs_of y) ≡ true → le (abs_of y) (abs_of z) ≡ true → lt (abs_of x) (abs_of z) ≡ true
unfolding abs_of lt eq le
below-through nan y z h k = absurd (false≢true h)
below-through (inf s) nan z h k = absurd (false≢true h)
below-through (inf s) (inf t) z h k = absurd (false≢true h)
below-through (inf s) (fin t n d) z h k = absurd (false≢true h)
below-through (fin s m e) nan z h k = absurd (false≢true h)
below-through (fin s m e) (inf t) nan h k = absurd (false≢true k)
below-through (fin s m e) (inf t) (inf r) h k = refl
below-through (fin s m e) (inf t) (fin r o g) h k = absurd (false≢true k)
below-through (fin s m e) (fin t n d) nan h k = absurd (false≢true k)
below-through (fin s m e) (fin t n d) (inf r) h k = refl
below-through (fin s m e) (fin t n d) (fin r o g) h k =
    lt-ltb (m * up e * down g) (o * up g * down e)
    (between (m * up e) (n * up d) (o * up g) (down e) (down d) (down g) (down_pos g) (ltb-true (m * up e * down d) (n * up d * down e) h)
    (lt-or-eq (n * up d * down g) (o * up g * down d) (subst T (sym k) tt)))

pub not-below-itself : (x : Float) → lt (abs_of x) (abs_of x) ≡ false
unfolding abs_of lt
not-below-itself nan = refl
not-below-itself (inf s) = refl
not-below-itself (fin s m e) = le-ltb (m * up e * down e) (m * up e * down e) (le_refl (m * up e * down e))

pub below-at-most : (x y : Float) → lt x y ≡ true → le x y ≡ true
unfolding le
below-at-most x y h = rw h
