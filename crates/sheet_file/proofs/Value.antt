-- The float of a pattern is not finite or exceeds 16,384 in magnitude just where the pattern, without its sign, is above that of 16,384.
-- Assumes nothing.
use mathlib.Core.Path.{◌≡◌, refl, sym, ◌∙◌}
use mathlib.Core.Bool.{Bool, true, false, cond, not, true≢false}
use Prim.Native.Nat.{ℕ, zero, suc, ◌+◌, ◌*◌, ◌/◌, ◌%◌, ◌^◌, ◌≤◌, ◌<◌}
use native.Mathlib.Omega.{arith}
use native.Mathlib.Nat.{mul-le-mul_right, le_of_mul-le-mul_right, mul_right_comm, le_trans, le_of_lt, lt_of_lt_of_le, not-le_of_lt}
use native.Mathlib.Decide.{dec_lt}
use Prim.{Dec, yes, no}
use lib.Dec.{T, leb, ltb, eqb, leb→le}
use lib.Arith.{le→nltb}
use borrow.Author.Tests.{eqb-true, ltb-false, lt-ltb, le-ltb}
use lib.Pow.{pow_pos, pow_mono, shl_lt, pow-add}
use lib.Ieee.{Float, nan, inf, fin, binary32, up, down, odd, of_fields, of_bits, nan_bits}
use lib.Ieee.Bits.{nan_bits_above}
use lib.Ieee.Digits.{Equals, odd_val}
use lib.Ieee.Fits.{down_pos}
use Rattle.folds.specs.Arith.{f32}
use Rattle.sheet_file.specs.Limit.{outside}

-- finite, and at most 16,384 in magnitude
abbrev Within : Float → Type 0
Within nan = ⊥
Within (inf s) = ⊥
Within (fin s m e) = m * up e ≤ 16384 * down e

within_of : (x : Float) (a c : ℕ) → 0 < c → Equals x a c → a ≤ 16384 * c → Within x
within_of nan a c h e l = e
within_of (inf s) a c h e l = e
within_of (fin s m e) a c h q l = le_of_mul-le-mul_right {k = c} (omega (arith, q, mul-le-mul_right (down e) l, mul_right_comm 16384 c (down e))) h

of-within : (x : Float) (a c : ℕ) → 0 < c → Equals x a c → Within x → a ≤ 16384 * c
of-within nan a c h e w = absurd w
of-within (inf s) a c h e w = absurd w
of-within (fin s m e) a c h q w = le_of_mul-le-mul_right {k = down e} (omega (arith, q, mul-le-mul_right c w, mul_right_comm 16384 c (down e))) (down_pos e)

-- the magnitude of (2 ^ 23 + t) * 2 ^ x units of 2 ^ -149
small : (t x : ℕ) → t < 8388608 → suc x * 8388608 + t ≤ 0x46800000 → (8388608 + t) * 2 ^ x ≤ 16384 * 2 ^ 149
small t x h l = go (dec_lt x 140)
  where
    last : x ≡ 140 → t ≡ 0 → (8388608 + t) * 2 ^ x ≤ 16384 * 2 ^ 149
    last e f = rw (e, f) (leb→le ((8388608 + 0) * 2 ^ 140) (16384 * 2 ^ 149) tt)

    go : Dec (x < 140) → (8388608 + t) * 2 ^ x ≤ 16384 * 2 ^ 149
    go (yes k) = le_trans (le_of_lt (shl_lt {a = 8388608 + t} 24 x (omega arith))) (pow_mono {i = 24 + x} {j = 163} (omega arith))
    go (no f) = last (omega arith) (omega arith)

large : (t x : ℕ) → t < 8388608 → 0x46800000 < suc x * 8388608 + t → 16384 * 2 ^ 149 < (8388608 + t) * 2 ^ x
large t x h l = go (dec_lt 140 x)
  where
    last : x ≡ 140 → 0 < t → 16384 * 2 ^ 149 < (8388608 + t) * 2 ^ x
    last e f = rw e (lt_of_lt_of_le (leb→le (suc (16384 * 2 ^ 149)) (8388609 * 2 ^ 140) tt) (mul-le-mul_right {m = 8388609} {n = 8388608 + t} (2 ^ 140) (omega arith)))

    far : 140 < x → 16384 * 2 ^ 149 < (8388608 + t) * 2 ^ x
    far k =
        lt_of_lt_of_le (lt_of_lt_of_le (leb→le (suc (16384 * 2 ^ 149)) (2 ^ 164) tt) (pow_mono {i = 164} {j = 23 + x} (omega arith)))
        (rw (pow-add 2 23 x) (mul-le-mul_right (2 ^ x) (omega arith)))

    go : Dec (140 < x) → 16384 * 2 ^ 149 < (8388608 + t) * 2 ^ x
    go (yes k) = far k
    go (no f) = last (omega arith) (omega arith)

small-t : (t : ℕ) → t < 8388608 → t * 2 ^ 0 ≤ 8388608
small-t t h = omega arith

-- by the exponent's field
fields_in : (s : Bool) (x t : ℕ) → t < 8388608 → x * 8388608 + t ≤ 0x46800000 → Within (of_fields binary32 s x t)
unfolding of_fields
fields_in s zero t h l = within_of (odd 24 s t 0 149) (t * 2 ^ 0) (2 ^ 149) (pow_pos 149) (odd_val 24 s t 0 149) (le_trans (small-t t h) (leb→le 8388608 (16384 * 2 ^ 149) tt))
fields_in s (suc x) t h l = go (eqb (suc x) 255) refl
  where
    go : (b : Bool) → eqb (suc x) 255 ≡ b → Within (cond b (cond (eqb t 0) (inf s) nan) (odd 24 s (8388608 + t) x 149))
    go true e = absurd (omega (arith, eqb-true (suc x) 255 e))
    go false e = within_of (odd 24 s (8388608 + t) x 149) ((8388608 + t) * 2 ^ x) (2 ^ 149) (pow_pos 149) (odd_val 24 s (8388608 + t) x 149) (small t x h l)

fields_out : (s : Bool) (x t : ℕ) → t < 8388608 → 0x46800000 < x * 8388608 + t → Within (of_fields binary32 s x t) → ⊥
unfolding of_fields
fields_out s zero t h l w = omega arith
fields_out s (suc x) t h l w = go (eqb (suc x) 255) (eqb t 0) w
  where
    go : (b c : Bool) → Within (cond b (cond c (inf s) nan) (odd 24 s (8388608 + t) x 149)) → ⊥
    go true true w = w
    go true false w = w
    go false c w = not-le_of_lt (large t x h l) (of-within (odd 24 s (8388608 + t) x 149) ((8388608 + t) * 2 ^ x) (2 ^ 149) (pow_pos 149) (odd_val 24 s (8388608 + t) x 149) w)

-- ---- the theorem

-- the sign is the highest bit of the pattern; without it the pattern is at most that of 16,384, or above it
at_most : (b : ℕ) → b % 2147483648 ≤ 0x46800000 → Within (f32 b)
unfolding of_bits
at_most b l = fields_in (leb 2147483648 b) (b % 2147483648 / 8388608) (b % 8388608) (omega arith) (omega arith)

above : (b : ℕ) → 0x46800000 < b % 2147483648 → Within (f32 b) → ⊥
unfolding of_bits
above b l w = fields_out (leb 2147483648 b) (b % 2147483648 / 8388608) (b % 8388608) (omega arith) (omega arith) w

within-inside : (x : Float) → Within x → outside x ≡ false
within-inside nan w = absurd w
within-inside (inf s) w = absurd w
within-inside (fin s m e) w = le-ltb (16384 * down e) (m * up e) w

inside-within : (x : Float) → outside x ≡ false → Within x
inside-within nan h = true≢false h
inside-within (inf s) h = true≢false h
inside-within (fin s m e) h = ltb-false (16384 * down e) (m * up e) h

pub outside-pattern : (b : ℕ) → outside (f32 b) ≡ ltb 0x46800000 (b % 0x80000000)
outside-pattern b = go (dec_lt 0x46800000 (b % 2147483648)) (outside (f32 b)) refl
  where
    go : Dec (0x46800000 < b % 2147483648) → (o : Bool) → outside (f32 b) ≡ o → o ≡ ltb 0x46800000 (b % 0x80000000)
    go (yes l) true f = sym (lt-ltb 0x46800000 (b % 2147483648) l)
    go (yes l) false f = absurd (above b l (inside-within (f32 b) f))
    go (no l) true f = absurd (true≢false (sym f ∙ within-inside (f32 b) (at_most b (omega arith))))
    go (no l) false f = sym (le-ltb 0x46800000 (b % 2147483648) (omega arith))

-- a float that is inside has no NaN's pattern
pub inside-no-nan : (b : ℕ) → outside (f32 b) ≡ false → T (not (nan_bits binary32 b))
inside-no-nan b h = rw nan_bits_above (le→nltb 2139095040 (b % 2147483648) (omega (arith, ltb-false 0x46800000 (b % 2147483648) (sym (outside-pattern b) ∙ h))))
