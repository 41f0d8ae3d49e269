-- The order of finite f32 numbers is that of their keys. Assumes nothing.
use mathlib.Core.Path.{◌≡◌, refl, sym, ap, ◌∙◌}
use mathlib.Core.Logic.{⊎_elim}
use mathlib.Core.Bool.{Bool, true, false}
use mathlib.Core.List.{[], ◌∷◌, map}
use Prim.Native.Nat.{ℕ, zero, suc, ◌+◌, ◌-◌, ◌*◌, ◌/◌, ◌^◌, ◌<◌}
use native.Mathlib.Nat.{zero-mul, zero-div, zero-lt-suc, mul-pos, eq-or-lt_of_le}
use native.Mathlib.Omega.{arith}
use lib.IntN.{ℤ}
use lib.Dec.{T, ltb, lt→ltb}
use borrow.Author.Tests.{lt-ltb, le-ltb, ltb-true, ltb-false}
use lib.Ieee.{Float, nan, inf, fin, binary32, up, down, lt, neg, fits, to_bits, of_bits}
use lib.Ieee.Fits.{neg-fits, up_pos, down_pos}
use lib.Ieee.Positive.{num}
use lib.Ieee.Bits.{of_bits-to_bits, to_bits-lt}
use Rattle.folds.specs.Arith.{f32, zero_f}
use Rattle.float.specs.Constants.{sign_bit, one, minus_one}
use Rattle.float.proofs.Bits.{bits-order}
use Rattle.median.specs.Keys.{Number, rising_of}
use Rattle.float.proofs.Signless.{no-size}
use Rattle.folds.proofs.Below.{ltb_as}

-- ---- patterns of finite numbers

-- the pattern of m * 2 ^ e
abbrev bits_of : ℕ → ℤ → ℕ
bits_of m e = to_bits binary32 (fin false m e)

signed : (m : ℕ) (e : ℤ) → to_bits binary32 (fin true m e) ≡ sign_bit + bits_of m e
unfolding to_bits
signed m e = omega arith

bits_small : (m : ℕ) (e : ℤ) → T (fits binary32 (fin false m e)) → bits_of m e < sign_bit
unfolding neg
bits_small m e f = omega (arith, signed m e, to_bits-lt binary32 (fin true m e) (neg-fits binary32 (fin false m e) f))

bits-zero : (e : ℤ) → bits_of 0 e ≡ 0
unfolding to_bits
bits-zero e = let n : 0 * up e * 2 ^ 149 / down e ≡ 0 = simp (zero-mul, zero-div) in rw n

-- 0 alone has the pattern 0
bits-some : (m : ℕ) (e : ℤ) → T (fits binary32 (fin false (suc m) e)) → 0 < bits_of (suc m) e
unfolding of_bits
bits-some m e f =
    ⊎_elim (λ (z : 0 ≡ bits_of (suc m) e). absurd (omega (arith, mul-pos (zero-lt-suc m) (up_pos e), ap num (sym (of_bits-to_bits binary32 (fin false (suc m) e) f) ∙ ap (of_bits binary32) (sym z)))))
    (λ l. l) (eq-or-lt_of_le (omega arith))

-- ---- the order of numbers

some : (m : ℕ) (e d : ℤ) → 0 < suc m * up e * down d
some m e d = mul-pos (mul-pos (zero-lt-suc m) (up_pos e)) (down_pos d)

some_bits : (m : ℕ) (e d : ℤ) → T (fits binary32 (fin false m e)) → ltb 0 (m * up e * down d) ≡ ltb 0 (bits_of m e)
some_bits zero e d f = rw (no-size e d, bits-zero e)
some_bits (suc m) e d f = lt-ltb 0 (suc m * up e * down d) (some m e d) ∙ sym (lt-ltb 0 (bits_of (suc m) e) (bits-some m e f))

-- magnitudes are ordered as their patterns
sizes : (m n : ℕ) (e d : ℤ) → T (fits binary32 (fin false m e)) → T (fits binary32 (fin false n d)) → ltb (m * up e * down d) (n * up d * down e) ≡ ltb (bits_of m e) (bits_of n d)
unfolding lt
sizes zero n e d f g = rw (no-size e d, bits-zero e) (some_bits n d e g)
sizes (suc m) zero e d f g = rw (no-size d e, bits-zero d) (le-ltb (suc m * up e * down d) 0 (omega arith) ∙ sym (le-ltb (bits_of (suc m) e) 0 (omega arith)))
sizes (suc m) (suc n) e d f g = bits-order (fin false (suc m) e) (fin false (suc n) d) (lt→ltb 0 (suc m) (zero-lt-suc m)) (lt→ltb 0 (suc n) (zero-lt-suc n)) f g

-- a number with the sign is below one without it, but for two zeros
across : (a b p q : ℕ) → p < sign_bit → ltb 0 a ≡ ltb 0 p → ltb 0 b ≡ ltb 0 q → ltb 0 (a + b) ≡ ltb (sign_bit - p) (sign_bit + q)
across a b p q h e f = go (ltb 0 p) (ltb 0 q) e f refl refl
  where
    go : (s t : Bool) → ltb 0 a ≡ s → ltb 0 b ≡ t → ltb 0 p ≡ s → ltb 0 q ≡ t → ltb 0 (a + b) ≡ ltb (sign_bit - p) (sign_bit + q)
    go true t ea eb ep eq = lt-ltb 0 (a + b) (omega (arith, ltb-true 0 a ea)) ∙ sym (lt-ltb (sign_bit - p) (sign_bit + q) (omega (arith, ltb-true 0 p ep)))
    go false true ea eb ep eq = lt-ltb 0 (a + b) (omega (arith, ltb-true 0 b eb)) ∙ sym (lt-ltb (sign_bit - p) (sign_bit + q) (omega (arith, ltb-true 0 q eq)))
    go false false ea eb ep eq = le-ltb 0 (a + b) (omega (arith, ltb-false 0 a ea, ltb-false 0 b eb)) ∙ sym (le-ltb (sign_bit - p) (sign_bit + q) (omega (arith, ltb-false 0 p ep, ltb-false 0 q eq)))

-- ---- keys

module _ (m : ℕ) (e : ℤ) (f : T (fits binary32 (fin false m e))) where
  key-up : rising_of (fin false m e) ≡ sign_bit + bits_of m e
  unfolding rising_of
  key-up = rw (lt-ltb (bits_of m e) sign_bit (bits_small m e f))

  key-down : rising_of (fin true m e) ≡ sign_bit - bits_of m e
  unfolding rising_of
  key-down = rw (signed m e, le-ltb (sign_bit + bits_of m e) sign_bit (omega arith)) (omega arith)

module _ (m n : ℕ) (e d : ℤ) (f : T (fits binary32 (fin false m e))) (g : T (fits binary32 (fin false n d))) where
  -- by the two signs
  by-signs : (s t : Bool) → lt (fin s m e) (fin t n d) ≡ ltb (rising_of (fin s m e)) (rising_of (fin t n d))
  unfolding lt
  by-signs false false =
      rw (key-up m e f, key-up n d g) (sizes m n e d f g ∙ ltb_as (bits_of m e) (bits_of n d) (sign_bit + bits_of m e) (sign_bit + bits_of n d) (λ h. omega arith) (λ h. omega arith))
  by-signs false true = rw (key-up m e f, key-down n d g) (sym (le-ltb (sign_bit + bits_of m e) (sign_bit - bits_of n d) (omega arith)))
  by-signs true false = rw (key-down m e f, key-up n d g) (across (m * up e * down d) (n * up d * down e) (bits_of m e) (bits_of n d) (bits_small m e f) (some_bits m e d f) (some_bits n d e g))
  by-signs true true =
      rw (key-down m e f, key-down n d g)
      (sizes n m d e g f ∙ ltb_as (bits_of n d) (bits_of m e) (sign_bit - bits_of m e) (sign_bit - bits_of n d) (λ h. omega (arith, bits_small m e f)) (λ h. omega arith))

cleared : (s : Bool) (m : ℕ) (e : ℤ) → T (fits binary32 (fin s m e)) → T (fits binary32 (fin false m e))
unfolding neg
cleared true m e f = neg-fits binary32 (fin true m e) f
cleared false m e f = f

-- the order of numbers is that of their keys
pub key-order : (x y : Float) → Number x → Number y → lt x y ≡ ltb (rising_of x) (rising_of y)
key-order nan y p q = absurd p.is_finite
key-order (inf s) y p q = absurd p.is_finite
key-order (fin s m e) nan p q = absurd q.is_finite
key-order (fin s m e) (inf t) p q = absurd q.is_finite
key-order (fin s m e) (fin t n d) p q = by-signs m n e d (cleared s m e p.is-f32) (cleared t n d q.is-f32) s t

-- -1 is below -0, which is not below +0, which is below 1
signs-ordered : map rising_of (minus_one ∷ f32 sign_bit ∷ zero_f ∷ one ∷ []) ≡ 0x4080_0000 ∷ sign_bit ∷ sign_bit ∷ 0xbf80_0000 ∷ []
unfolding rising_of of_bits
signs-ordered = refl

-- a NaN has a key, and no order
nan-unordered : (lt zero_f nan ≡ false) × (ltb (rising_of zero_f) (rising_of nan) ≡ true)
unfolding rising_of of_bits lt
nan-unordered = (refl, refl)
