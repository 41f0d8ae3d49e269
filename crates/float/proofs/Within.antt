-- Bounds on the results of f32 operations, and where they are numbers: a difference, sum or product of bounded numbers is bounded, the length of
-- a vector is no NaN, and neither is a finite number over one above 0. Assumes nothing.
use mathlib.Core.Path.{◌≡◌, refl, sym, ap, ◌∙◌, subst}
use mathlib.Core.Bool.{Bool, true, false, cond, ◌&&◌, ◌||◌, beq, true≢false}
use mathlib.Core.Logic.{inl, inr}
use Prim.{yes, no}
use Prim.Native.Nat.{ℕ, zero, suc, ◌+◌, ◌-◌, ◌*◌, ◌^◌, ◌≤◌, ◌<◌}
use native.Mathlib.Nat.{le_trans, eq-or-lt_of_le, mul_assoc, mul_comm, mul_right_comm, mul-one, one-mul, add-mul, mul-pos, mul-le-mul, mul-le-mul_right, le_of_mul-le-mul_right, mul-mul-mul_comm, two-pow-succ, le_of_eq}
use native.Mathlib.Decide.{dec_lt}
use native.Mathlib.Omega.{arith}
use lib.Dec.{T, ltb, eqb, ltb→lt}
use lib.IntN.{ℤ}
use lib.Pow.{pow-add, pow-lt}
use borrow.Author.Tests.{lt-ltb, le-ltb, eq-eqb, ne_eqb}
use lib.Ieee.{Float, nan, inf, fin, binary32, up, down, unlike, is_nan, lt, le, eq, neg, add, sub, mul, div, sum, round, of_bits}
use lib.Ieee.Exact.{HasValue, odd_sign, round_exact}
use lib.Ieee.Fits.{down_pos}
use lib.Ieee.Order.{round_mono}
use lib.Ieee.Positive.{above, above_of_le, mul_mono}
use lib.Ieee.Scale.{finite}
use Rattle.float.specs.Constants.{one, minus_one, epsilon}
use Rattle.float.specs.Root.{digits4, scaled, units, near_root, root_units, root_of}
use Rattle.float.specs.Scalar.{abs_of, clamp_of, norm_of}
use Rattle.float.proofs.Order.{plain, plain-cases, plain-pair, plain_value, plain-round, plain-number, square-plain, sum-plain, lt-or-eq}
use Rattle.float.proofs.Sign.{abs-round}

-- finite, and at most 2 ^ k in magnitude
abbrev pub Within : ℕ → Float → Type 0
Within k nan = ⊥
Within k (inf s) = ⊥
Within k (fin s m e) = m * up e ≤ 2 ^ k * down e

pub within-finite : (k : ℕ) (x : Float) → Within k x → T (finite x)
within-finite k nan h = absurd h
within-finite k (inf s) h = absurd h
within-finite k (fin s m e) h = tt

pub within-number : (k : ℕ) (x : Float) → Within k x → is_nan x ≡ false
unfolding is_nan
within-number k nan h = absurd h
within-number k (inf s) h = absurd h
within-number k (fin s m e) h = refl

-- ---- rounding

within-abs : (k : ℕ) (x : Float) → Within k (abs_of x) → Within k x
unfolding abs_of
within-abs k nan h = h
within-abs k (inf s) h = h
within-abs k (fin s m e) h = h

-- what is at most a number that is 2 ^ k
under-power : (k : ℕ) (z t : Float) → T (plain z) → HasValue t false (2 ^ k) 1 → T (le z t) → Within k z
unfolding le
under-power k z nan p h = absurd h
under-power k z (inf s) p h = absurd h
under-power k z (fin true n d) p h = absurd (true≢false h.0)
under-power k z (fin false n d) p h =
    plain-cases (λ (a : Float). T (le a (fin false n d)) → Within k a) (λ l. absurd l)
    (λ m e l. le_of_mul-le-mul_right {m = m * up e} {n = 2 ^ k * down e} {k = down d}
    (le_trans (lt-or-eq (m * up e * down d) (n * up d * down e) l)
    (subst (λ (x : ℕ). x * down e ≤ 2 ^ k * down e * down d) (sym (sym (mul-one (n * up d)) ∙ h.1)) (turn (2 ^ k) (down d) (down e)))) (down_pos d)) z p
  where
    turn : (a b c : ℕ) → a * b * c ≤ a * c * b
    turn a b c = omega (arith, mul_right_comm a b c)

power-value : (k : ℕ) → k < 128 → HasValue (round binary32 false (2 ^ k) 1) false (2 ^ k) 1
power-value k h =
    round_exact binary32 false (2 ^ k) 1 1 (k + 149) (omega arith) (omega arith)
    (subst (λ (x : ℕ). x < 2 ^ 277) (sym (one-mul (2 ^ (k + 149)))) (pow-lt {i = k + 149} {j = 277} (omega arith)))
    (sym (pow-add 2 k 149) ∙ sym (mul-one (1 * 2 ^ (k + 149)) ∙ one-mul (2 ^ (k + 149))))

within-round : (k : ℕ) (s : Bool) (a c : ℕ) → k < 128 → 0 < c → a ≤ 2 ^ k * c → Within k (round binary32 s a c)
within-round k s a c h C l =
    within-abs k (round binary32 s a c)
    (rw (abs-round binary32 s a c)
    (under-power k (round binary32 false a c) (round binary32 false (2 ^ k) 1) (plain-round binary32 a c) (power-value k h)
    (round_mono binary32 a c (2 ^ k) 1 C (omega arith) (rw (mul-one a) l))))

number-abs : (x : Float) → is_nan (abs_of x) ≡ is_nan x
unfolding is_nan abs_of
number-abs nan = refl
number-abs (inf s) = refl
number-abs (fin s m e) = refl

pub round_number : (s : Bool) (a c : ℕ) → is_nan (round binary32 s a c) ≡ false
round_number s a c = sym (number-abs (round binary32 s a c)) ∙ ap is_nan (abs-round binary32 s a c) ∙ plain-number (round binary32 false a c) (plain-round binary32 a c)

-- ---- sums, differences, products

sum-within : (k : ℕ) (s : Bool) (a : ℕ) (t : Bool) (b c : ℕ) → suc k < 128 → 0 < c → a ≤ 2 ^ k * c → b ≤ 2 ^ k * c → Within (suc k) (sum binary32 s a t b c)
unfolding sum
sum-within k s a t b c h C l r = go (beq s t) (ltb a b)
  where
    double : 2 ^ suc k * c ≡ 2 ^ k * c + 2 ^ k * c
    double = ap (λ (x : ℕ). x * c) (two-pow-succ k) ∙ add-mul (2 ^ k) (2 ^ k) c

    go : (x y : Bool) → Within (suc k) (cond x (round binary32 s (a + b) c) (cond y (round binary32 t (b - a) c) (round binary32 (s && ltb b a) (a - b) c)))
    go true y = within-round (suc k) s (a + b) c h C (omega (arith, double, l, r))
    go false true = within-round (suc k) t (b - a) c h C (omega (arith, double, l, r))
    go false false = within-round (suc k) (s && ltb b a) (a - b) c h C (omega (arith, double, l, r))

neg-within : (k : ℕ) (x : Float) → Within k x → Within k (neg x)
unfolding neg
neg-within k nan h = h
neg-within k (inf s) h = h
neg-within k (fin s m e) h = h

-- over a common denominator
common : (p a d g : ℕ) → a ≤ p * d → a * g ≤ p * (d * g)
common p a d g h = le_trans (mul-le-mul_right g h) (le_of_eq (mul_assoc p d g))

pub add-within : (k : ℕ) (x y : Float) → suc k < 128 → Within k x → Within k y → Within (suc k) (add binary32 x y)
unfolding add
add-within k nan y h p q = absurd p
add-within k (inf s) y h p q = absurd p
add-within k (fin s m e) nan h p q = absurd q
add-within k (fin s m e) (inf t) h p q = absurd q
add-within k (fin s m e) (fin t n d) h p q =
    sum-within k s (m * up e * down d) t (n * up d * down e) (down e * down d) h (mul-pos (down_pos e) (down_pos d)) (common (2 ^ k) (m * up e) (down e) (down d) p)
    (subst (λ (x : ℕ). n * up d * down e ≤ 2 ^ k * x) (mul_comm (down d) (down e)) (common (2 ^ k) (n * up d) (down d) (down e) q))

pub sub_within : (k : ℕ) (x y : Float) → suc k < 128 → Within k x → Within k y → Within (suc k) (sub binary32 x y)
unfolding sub
sub_within k x y h p q = add-within k x (neg y) h p (neg-within k y q)

pub mul-within : (j k : ℕ) (x y : Float) → j + k < 128 → Within j x → Within k y → Within (j + k) (mul binary32 x y)
unfolding mul
mul-within j k nan y h p q = absurd p
mul-within j k (inf s) y h p q = absurd p
mul-within j k (fin s m e) nan h p q = absurd q
mul-within j k (fin s m e) (inf t) h p q = absurd q
mul-within j k (fin s m e) (fin t n d) h p q =
    within-round (j + k) (unlike s t) (m * up e * (n * up d)) (down e * down d) h (mul-pos (down_pos e) (down_pos d))
    (subst (λ (x : ℕ). m * up e * (n * up d) ≤ x) (mul-mul-mul_comm (2 ^ j) (down e) (2 ^ k) (down d) ∙ ap (λ (x : ℕ). x * (down e * down d)) (sym (pow-add 2 j k))) (mul-le-mul p q))

-- ---- the length of a vector

root-plain : (u : Float) → T (plain u) → T (plain (root_of u))
unfolding root_of root_units
root-plain u p = plain-cases (λ (a : Float). T (plain (root_of a))) tt finite-root u p
  where
    finite-root : (m : ℕ) (e : ℤ) → T (plain (root_of (fin false m e)))
    finite-root zero e = tt
    finite-root (suc m) e =
        let n = units (suc m) e in
        plain_value (root_units n) (near_root (scaled n) * 2 ^ (digits4 n + 50)) (2 ^ 149) (odd_sign 24 false (near_root (scaled n)) (digits4 n + 50) 149)

pub norm-plain : (x y : Float) → is_nan x ≡ false → is_nan y ≡ false → T (plain (norm_of x y))
unfolding norm_of
norm-plain x y p q = root-plain (add binary32 (mul binary32 x x) (mul binary32 y y)) (sum-plain (mul binary32 x x) (mul binary32 y y) (square-plain x p) (square-plain y q))

-- ---- a quotient

-- "over f32::EPSILON": a length that is not at most it
pub over-epsilon : (a : Float) → T (plain a) → le a epsilon ≡ false → T (le epsilon a)
unfolding le lt eq of_bits
over-epsilon a p =
    plain-cases (λ (x : Float). le x epsilon ≡ false → T (le epsilon x)) (λ h. tt) (λ m e h. go (m * up e * 2 ^ 23) (1 * 1 * down e) h) a p
  where
    go : (x y : ℕ) → ltb x y || (eqb x y && true) ≡ false → T (ltb y x || (eqb y x && true))
    go x y h = elim (dec_lt y x) [ yes l ↦ rw (lt-ltb y x l) tt | no f ↦ absurd (true≢false (sym (at_most (omega (arith, f))) ∙ h)) ]
      where
        at_most : x ≤ y → ltb x y || (eqb x y && true) ≡ true
        at_most l = elim (eq-or-lt_of_le l) [ inl e ↦ rw (eq-eqb x y e, le-ltb x y (omega (arith, e))) refl | inr g ↦ rw (lt-ltb x y g) refl ]

nonzero : (n : ℕ) → T (ltb 0 n) → eqb n 0 ≡ false
nonzero n h = ne_eqb n 0 (λ z. omega (arith, z, ltb→lt 0 n h))

-- the product of two such lengths is above 0
pub product-above : (a b : Float) → T (plain a) → T (plain b) → T (le epsilon a) → T (le epsilon b) → T (above (mul binary32 a b))
unfolding mul of_bits
product-above a b p q =
    plain-pair (λ (x y : Float). T (le epsilon x) → T (le epsilon y) → T (above (mul binary32 x y))) (λ h k. tt)
    (λ n d h k. rw (nonzero n (above_of_le epsilon (fin false n d) tt k)) tt) (λ m e h k. rw (nonzero m (above_of_le epsilon (fin false m e) tt h)) tt)
    (λ m e n d h k. above_of_le (mul binary32 epsilon epsilon) (mul binary32 (fin false m e) (fin false n d)) tt
    (mul_mono binary32 epsilon (fin false m e) epsilon (fin false n d) tt (above_of_le epsilon (fin false m e) tt h) tt (above_of_le epsilon (fin false n d) tt k) h k)) a b p q

pub number-over : (x y : Float) → T (finite x) → T (above y) → is_nan (div binary32 x y) ≡ false
unfolding div is_nan
number-over nan y p q = absurd p
number-over (inf s) y p q = absurd p
number-over (fin s m e) nan p q = absurd q
number-over (fin s m e) (inf t) p q = refl
number-over (fin s m e) (fin true n d) p q = absurd q
number-over (fin s m e) (fin false n d) p q = rw (nonzero n q) (round_number (unlike s false) (m * up e * down d) (n * up d * down e))

pub clamp-number : (x : Float) → is_nan x ≡ false → is_nan (clamp_of x) ≡ false
unfolding clamp_of is_nan of_bits
clamp-number x p = go (lt x minus_one) (lt one x)
  where
    go : (a b : Bool) → is_nan (cond a minus_one (cond b one x)) ≡ false
    go true b = refl
    go false true = refl
    go false false = p
