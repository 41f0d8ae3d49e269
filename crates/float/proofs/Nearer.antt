-- No f32 lies nearer to the root than the one given. An f32 from 0 on is t * 2 ^ i / 2 ^ 149 with t below 2 ^ 24; the root of x is
-- √r * 2 ^ j / 2 ^ 149, and the one given s * 2 ^ j / 2 ^ 149. Of two numbers the one is nearer whose side of their mean the root lies on.
-- Assumes nothing.
use mathlib.Core.Path.{◌≡◌, sym, ap, ◌∙◌, subst}
use mathlib.Core.Bool.{Bool, true, false}
use Prim.Native.Nat.{ℕ, ◌+◌, ◌-◌, ◌*◌, ◌^◌, ◌≤◌, ◌<◌}
use Prim.{Dec, yes, no}
use native.Mathlib.Nat.{mul_assoc, add-mul, lt_of_le_of_lt, lt_of_lt_of_le, lt_of_not-le, mul-pos, mul-le-mul_right, mul-lt-mul_of_pos_right, lt_of_mul-lt-mul_right}
use native.Mathlib.Decide.{dec_le}
use native.Mathlib.Omega.{arith}
use lib.Pow.{pow_pos, pow-add, pow_mono}
use Rattle.float.proofs.Digits.{Short}
use Rattle.float.proofs.Near.{NearRoot}
use Rattle.float.proofs.Squares.{square_le, square-lt, square-of}

-- The root lies below the mean of the given g and a larger a, and above that of g and a smaller a. q is 4 times the square of the root, so it
-- is compared with the square of twice the mean.
pub record OnSide (q g a : ℕ) : Type 0 where
  pub above : g < a → q < (g + a) * (g + a)
  pub below : a < g → (g + a) * (g + a) < q

-- a, or -a where the sign is set, is no nearer to the root than g: twice the mean of g and -a is g - a
abbrev pub NoNearer : ℕ → ℕ → Bool → ℕ → Type 0
NoNearer q g false a = OnSide q g a
NoNearer q g true a = (g - a) * (g - a) < q

-- twice a mean of at least c * p, or of at most
mean-over : (q c p m : ℕ) → 0 < p → q < c * c → c * p ≤ m → q * (p * p) < m * m
mean-over q c p m P h l = lt_of_lt_of_le (subst (λ (x : ℕ). q * (p * p) < x) (sym (square-of c p)) (mul-lt-mul_of_pos_right h (mul-pos P P))) (square_le l)

mean-under : (q c p m : ℕ) → 0 < p → c * c < q → m ≤ c * p → m * m < q * (p * p)
mean-under q c p m P h l = lt_of_le_of_lt (square_le l) (subst (λ (x : ℕ). x < q * (p * p)) (sym (square-of c p)) (mul-lt-mul_of_pos_right h (mul-pos P P)))

module _ (r s p : ℕ) (P : 0 < p) (near : NearRoot r s) (S : 2 ^ 23 ≤ s) (R : 2 ^ 46 ≤ r) where
  -- a multiple of p
  multiple : (u : ℕ) → OnSide (4 * r * (p * p)) (s * p) (u * p)
  multiple u = record {
    above = λ h.
        let k : s < u = lt_of_mul-lt-mul_right p h in
        mean-over (4 * r) (2 * s + 1) p (s * p + u * p) P near.below (subst (λ (x : ℕ). (2 * s + 1) * p ≤ x) (add-mul s u p) (mul-le-mul_right p (omega arith)));
    below = λ h.
        let k : u < s = lt_of_mul-lt-mul_right p h in
        mean-under (4 * r) (2 * s - 1) p (s * p + u * p) P near.above (subst (λ (x : ℕ). x ≤ (2 * s - 1) * p) (add-mul s u p) (mul-le-mul_right p (omega arith)));
  }

  -- below the multiple 2 ^ 23 of p
  small : (a : ℕ) → a < 2 ^ 23 * p → OnSide (4 * r * (p * p)) (s * p) a
  small a h = record {
    above = λ g. absurd (omega (arith, mul-le-mul_right p S));
    below = λ g. go (dec_le (2 ^ 23 + 1) s);
  }
    where
      go : Dec (2 ^ 23 + 1 ≤ s) → (s * p + a) * (s * p + a) < 4 * r * (p * p)
      go (yes k) =
          let c : s * p + 2 ^ 23 * p ≤ (2 * s - 1) * p = subst (λ (x : ℕ). x ≤ (2 * s - 1) * p) (add-mul s (2 ^ 23) p) (mul-le-mul_right p (omega arith)) in
          mean-under (4 * r) (2 * s - 1) p (s * p + a) P near.above (omega (arith, c, h))
      go (no k) =
          let e : s ≡ 2 ^ 23 = omega (arith, lt_of_not-le k) in
          let c : s * p + a < 2 ^ 24 * p = rw e (omega (arith, h)) in
          lt_of_lt_of_le (square-lt c) (subst (λ (x : ℕ). x ≤ 4 * r * (p * p)) (sym (square-of (2 ^ 24) p)) (mul-le-mul_right (p * p) (omega arith)))

-- a number of 2 ^ -149 with a significand of at most 24 bits
pub on-side : (r s j t i : ℕ) → NearRoot r s → 2 ^ 23 ≤ s → 2 ^ 46 ≤ r → t < 2 ^ 24 → OnSide (4 * r * (2 ^ j * 2 ^ j)) (s * 2 ^ j) (t * 2 ^ i)
on-side r s j t i near S R h = go (dec_le j i)
  where
    go : Dec (j ≤ i) → OnSide (4 * r * (2 ^ j * 2 ^ j)) (s * 2 ^ j) (t * 2 ^ i)
    go (yes l) =
        let b : i - j + j ≡ i = omega arith in
        let e : t * 2 ^ (i - j) * 2 ^ j ≡ t * 2 ^ i = mul_assoc t (2 ^ (i - j)) (2 ^ j) ∙ ap (λ (x : ℕ). t * x) (sym (pow-add 2 (i - j) j) ∙ ap (λ (x : ℕ). 2 ^ x) b) in
        subst (OnSide (4 * r * (2 ^ j * 2 ^ j)) (s * 2 ^ j)) e (multiple r s (2 ^ j) (pow_pos j) near S R (t * 2 ^ (i - j)))
    go (no l) =
        let m : 2 ^ (i + 1) ≤ 2 ^ j = pow_mono (omega (arith, lt_of_not-le l)) in
        let d : 2 ^ (i + 1) ≡ 2 ^ i * 2 = pow-add 2 i 1 in
        small r s (2 ^ j) (pow_pos j) near S R (t * 2 ^ i) (omega (arith, mul-lt-mul_of_pos_right h (pow_pos i), m, d))

-- with either sign
pub no-nearer : (r s j : ℕ) → NearRoot r s → 2 ^ 23 ≤ s → 2 ^ 46 ≤ r → (sign : Bool) (a : ℕ) → Short a → NoNearer (4 * r * (2 ^ j * 2 ^ j)) (s * 2 ^ j) sign a
no-nearer r s j near S R false a h = rw h.is (on-side r s j h.t h.j near S R h.few)
no-nearer r s j near S R true a h = lt_of_le_of_lt (square_le (less (s * 2 ^ j) a)) ((on-side r s j 0 0 near S R (pow_pos 24)).below (mul-pos (omega arith) (pow_pos j)))
  where
    less : (g a : ℕ) → g - a ≤ g + 0
    less g a = omega arith
