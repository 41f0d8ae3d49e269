-- From the bit pattern of an f32 to the number that it stands for, and from there to the root. Assumes nothing.
use mathlib.Core.Path.{◌≡◌, refl, sym, ap, ◌∙◌, subst}
use mathlib.Core.Bool.{Bool, true, false, cond}
use Prim.Native.Nat.{ℕ, zero, suc, ◌+◌, ◌-◌, ◌*◌, ◌/◌, ◌%◌, ◌^◌, ◌≤◌, ◌<◌}
use native.Mathlib.Nat.{le_antisymm, lt_of_lt_of_le, lt_of_not-le, not-le_of_lt, mod-eq_of_lt, mul-pos, zero-mul, mul_assoc, mul-div_cancel, mul-le-mul_right, mul-lt-mul_of_pos_right, pow-succ', two-pow-succ}
use native.Mathlib.Omega.{arith}
use lib.Dec.{T, leb, eqb, leb→le, eqb→eq, not_T}
use lib.IntN.{ℤ}
use lib.Pow.{pow_pos, pow_mono, pow-add, shl_lt}
use lib.Count.{count_leading_zeros, leading_top}
use lib.Ieee.{Float, nan, inf, fin, binary32, up, down, odd, size, of_fields, of_bits}
use lib.Ieee.Bits.{is_false, cond_no}
use lib.Ieee.Fits.{down_pos}
use lib.Ieee.Digits.{size-lt, size-le}
use lib.Ieee.Exact.{HasValue, odd_sign}
use Rattle.std.proofs.Common.{Option, Some}
use Rattle.float.specs.Root.{digits4, scaled, units, near_root, root_units, root_of}
use Rattle.float.specs.Remainder.{scaled_root, whole_root_of, remainder_of, distance_of}
use Rattle.float.specs.Found.{remainder_from, distance_at}
use Rattle.float.specs.declared.Distance.{Distance}
use Rattle.float.specs.Constants.{sign_bit, hidden_bit}
use Rattle.float.proofs.Near.{significand}

pub of_bits_is : (b : ℕ) → of_bits binary32 b ≡ of_fields binary32 (leb sign_bit b) (b % sign_bit / hidden_bit) (b % hidden_bit)
unfolding of_bits
of_bits_is b = refl

under_ones : (s : Bool) (t x : ℕ) → suc x < 255 → of_fields binary32 s (suc x) t ≡ odd 24 s (hidden_bit + t) x 149
unfolding of_fields
under_ones s t x h = cond_no (eqb (suc x) 255) (cond (eqb t 0) (inf s) nan) (odd 24 s (hidden_bit + t) x 149) (not_T (eqb (suc x) 255) (λ (u : T (eqb (suc x) 255)). differ (eqb→eq (suc x) 255 u)))
  where
    differ : suc x ≡ 255 → ⊥
    differ e = omega arith

at_zero : (s : Bool) (t : ℕ) → of_fields binary32 s 0 t ≡ odd 24 s t 0 149
unfolding of_fields
at_zero s t = refl

-- the three fields of a pattern without a sign
fields : (b : ℕ) → b < sign_bit → of_bits binary32 b ≡ of_fields binary32 false (b / hidden_bit) (b % hidden_bit)
fields b h =
    of_bits_is b
    ∙ ap (λ (s : Bool). of_fields binary32 s (b % sign_bit / hidden_bit) (b % hidden_bit)) (is_false (leb sign_bit b) (not_T (leb sign_bit b) (λ (u : T (leb sign_bit b)). not-le_of_lt h (leb→le sign_bit b u))))
    ∙ ap (λ (x : ℕ). of_fields binary32 false (x / hidden_bit) (b % hidden_bit)) (mod-eq_of_lt h)

pub subnormal : (b : ℕ) → b < hidden_bit → of_bits binary32 b ≡ odd 24 false b 0 149
subnormal b h =
    fields b (omega arith)
    ∙ ap (λ (x : ℕ). of_fields binary32 false x (b % hidden_bit)) (zero_field)
    ∙ at_zero false (b % hidden_bit)
    ∙ ap (λ (x : ℕ). odd 24 false x 0 149) (mod-eq_of_lt h)
  where
    zero_field : b / hidden_bit ≡ 0
    zero_field = omega arith

-- the pattern of a normal value, from its exponent's field and its significand of 24 bits
pub normal : (b k m : ℕ) → b ≡ k * hidden_bit + m → hidden_bit ≤ m → m < 16777216 → k < 254 → of_bits binary32 b ≡ odd 24 false m k 149
normal b k m e l h g =
    fields b (omega arith)
    ∙ ap (λ (x : ℕ). of_fields binary32 false x (b % hidden_bit)) field
    ∙ under_ones false (b % hidden_bit) k (omega arith)
    ∙ ap (λ (x : ℕ). odd 24 false x k 149) digits
  where
    field : b / hidden_bit ≡ suc k
    field = omega arith

    digits : hidden_bit + b % hidden_bit ≡ m
    digits = omega arith

-- what g is of a value a / 2 ^ 149, where it is h of an f32 above 0 in units of 2 ^ -150
module _ {A : Type 0} (g : Float → A) (h : ℕ → A) (same : (m : ℕ) (e : ℤ) → g (fin false (suc m) e) ≡ h (units (suc m) e)) where
  of-value : (y : Float) (a : ℕ) → 0 < a → HasValue y false a (2 ^ 149) → g y ≡ h (2 * a)
  of-value nan a A v = absurd v
  of-value (inf s) a A v = absurd v
  of-value (fin true m e) a A v = absurd (true-false v.0)
    where
      true-false : true ≡ false → ⊥
      true-false p = let z : ◌≡◌ {A = ℕ} 0 1 = cc in omega arith
  of-value (fin false zero e) a A v = absurd (none (a * down e) (mul-pos A (down_pos e)) (sym (zero-mul (up e * 2 ^ 149)) ∙ sym (mul_assoc 0 (up e) (2 ^ 149)) ∙ v.1))
    where
      none : (x : ℕ) → 0 < x → 0 ≡ x → ⊥
      none x p q = omega arith
  of-value (fin false (suc m) e) a A v = same m e ∙ ap (λ (x : ℕ). h (2 * (x / down e))) v.1 ∙ ap (λ (x : ℕ). h (2 * x)) (mul-div_cancel a (down_pos e))

root-of-value : (y : Float) (a : ℕ) → 0 < a → HasValue y false a (2 ^ 149) → root_of y ≡ root_units (2 * a)
unfolding root_of
root-of-value = of-value root_of root_units (λ m e. refl)

remainder-of-value : (y : Float) (a : ℕ) → 0 < a → HasValue y false a (2 ^ 149) → remainder_of y ≡ Some (remainder_from (scaled (2 * a)))
unfolding remainder_of whole_root_of scaled_root
remainder-of-value = of-value remainder_of (λ n. Some (remainder_from (scaled n))) (λ m e. refl)

-- how many digits
size_is : (n j : ℕ) → 2 ^ j ≤ n → n < 2 ^ suc j → size n ≡ suc j
size_is n j l h = le_antisymm (size-le n (suc j) h) (lt_of_not-le (λ (g : size n ≤ j). not-le_of_lt (lt_of_lt_of_le (size-lt n) (pow_mono g)) l))

pub four-pow : (d : ℕ) → 4 ^ d ≡ 2 ^ (d + d)
four-pow zero = refl
four-pow (suc d) = pow-succ' 4 d ∙ ap (λ (x : ℕ). 4 * x) (four-pow d) ∙ sym (pow-add 2 2 (d + d)) ∙ ap (λ (x : ℕ). 2 ^ x) next
  where
    next : 2 + (d + d) ≡ suc d + suc d
    next = omega arith

-- For a significand m of 24 bits and n = m * 2 ^ w / 2 ^ 25, exactly.
module _ (n m w : ℕ) (l : 2 ^ 23 ≤ m) (h : m < 2 ^ 24) (g : 2 ≤ w) (e : n * 2 ^ 25 ≡ m * 2 ^ w) where
  -- n has w - 1 binary digits
  places : (j P : ℕ) → P ≡ 2 ^ j → w ≡ j + 2 → (P ≤ n) × (n < P + P)
  places j P p q =
      let x : m * (P * 4) ≡ m * P * 4 = sym (mul_assoc m P 4) in
      let y : 2 ^ w ≡ P * 4 = ap (λ (z : ℕ). 2 ^ z) q ∙ pow-add 2 j 2 ∙ ap (λ (z : ℕ). z * 4) (sym p) in
      let z : n * 33554432 ≡ m * P * 4 = e ∙ ap (λ (v : ℕ). m * v) y ∙ x in
      let u : hidden_bit * P ≤ m * P = mul-le-mul_right P l in
      let v : m * P < 16777216 * P = mul-lt-mul_of_pos_right h (subst (λ (v : ℕ). 0 < v) (sym p) (pow_pos j)) in
      (omega arith, omega arith)

  digits4-is : digits4 n ≡ w / 2
  unfolding digits4
  digits4-is =
      let t = places (w - 2) (2 ^ (w - 2)) refl (omega arith) in
      let k : size n ≡ suc (w - 2) = size_is n (w - 2) t.0 (subst (λ (x : ℕ). n < x) (sym (two-pow-succ (w - 2))) t.1) in
      omega (arith, k)

  -- moved by an even number of places, n is m moved by 23 or 24
  whole : n * 4 ^ 24 ≡ m * 2 ^ (23 + w % 2) * 4 ^ (w / 2)
  whole =
      let k : w + 23 ≡ 23 + w % 2 + (w / 2 + w / 2) = omega arith in
      sym (mul_assoc n (2 ^ 25) (2 ^ 23))
      ∙ ap (λ (x : ℕ). x * 2 ^ 23) e
      ∙ mul_assoc m (2 ^ w) (2 ^ 23)
      ∙ ap (λ (x : ℕ). m * x) (sym (pow-add 2 w 23) ∙ ap (λ (x : ℕ). 2 ^ x) k ∙ pow-add 2 (23 + w % 2) (w / 2 + w / 2) ∙ ap (λ (x : ℕ). 2 ^ (23 + w % 2) * x) (sym (four-pow (w / 2))))
      ∙ sym (mul_assoc m (2 ^ (23 + w % 2)) (4 ^ (w / 2)))

  pub scaled-is : scaled n ≡ m * 2 ^ (23 + w % 2)
  unfolding scaled
  scaled-is =
      ap (λ (d : ℕ). n * 4 ^ 24 / 4 ^ d) digits4-is
      ∙ ap (λ (x : ℕ). x / 4 ^ (w / 2)) whole
      ∙ mul-div_cancel (m * 2 ^ (23 + w % 2)) (subst (λ (x : ℕ). 0 < x) (sym (four-pow (w / 2))) (pow_pos (w / 2 + w / 2)))

  -- nothing is lost where n is moved
  pub scaled_exact : scaled n * 4 ^ digits4 n ≡ n * 4 ^ 24
  scaled_exact = ap (λ (x : ℕ). x * 4 ^ digits4 n) scaled-is ∙ ap (λ (d : ℕ). m * 2 ^ (23 + w % 2) * 4 ^ d) digits4-is ∙ sym whole

  root-of-significand : root_units n ≡ odd 24 false (near_root (m * 2 ^ (23 + w % 2))) (w / 2 + 50) 149
  unfolding root_units
  root-of-significand = ap (λ (r : ℕ). odd 24 false (near_root r) (digits4 n + 50) 149) scaled-is ∙ ap (λ (d : ℕ). odd 24 false (near_root (m * 2 ^ (23 + w % 2))) (d + 50) 149) digits4-is

-- A root with its remainder. The value of the pattern b is q * 2 ^ k / 2 ^ 149, and m * 2 ^ w / 2 ^ 175 with a significand m of 24 bits.
pub distance-of-pattern : (b q k m w : ℕ) (d : Distance) → of_bits binary32 b ≡ odd 24 false q k 149 → 0 < q → 2 ^ 23 ≤ m → m < 2 ^ 24 → 2 ≤ w → w < 280
    → 2 * (q * 2 ^ k) * 2 ^ 25 ≡ m * 2 ^ w → d ≡ distance_at (w / 2) (m * 2 ^ (23 + w % 2))
    → d ≡ distance_of (of_bits binary32 b)
distance-of-pattern b q k m w d e Q l h g f t p =
    let s = significand m (w % 2) l h (omega arith) in
    let r = m * 2 ^ (23 + w % 2) in
    let y = odd 24 false q k 149 in
    let a = q * 2 ^ k in
    let A : 0 < a = mul-pos Q (pow_pos k) in
    let v = odd_sign 24 false q k 149 in
    let root : root_of y ≡ of_bits binary32 ((w / 2 + 50) * hidden_bit + near_root r) =
    root-of-value y a A v ∙ root-of-significand (2 * a) m w l h g t ∙ sym (normal _ (w / 2 + 50) (near_root r) refl s.0 s.1 (omega arith)) in
    let rest : remainder_of y ≡ Some (remainder_from r) = remainder-of-value y a A v ∙ ap (λ (x : ℕ). Some (remainder_from x)) (scaled-is (2 * a) m w l h g t) in
    p ∙ sym (ap distance_of e ∙ found root rest)
  where
    found : {x x' : Float} {z z' : Option ℤ} → x ≡ x' → z ≡ z' → ◌≡◌ {A = Distance} (record { value = x; remainder = z }) (record { value = x'; remainder = z' })
    found e f = rw (e, f)

-- The leading zeros z of a significand b in 32 bits, less 8, move it up to 24 bits
pub record Leading (b z : ℕ) : Type 0 where
  pub least : 8 ≤ z
  pub most : z ≤ 31
  pub low : 2 ^ 23 ≤ b * 2 ^ (z - 8)
  pub high : b * 2 ^ (z - 8) < 2 ^ 24

pub leading : (b : ℕ) → 0 < b → b < 2 ^ 24 → Leading b (count_leading_zeros 32 b)
leading b B h = go (count_leading_zeros 32 b) (leading_top 32 b B (omega arith))
  where
    go : (z : ℕ) → (j : ℕ) × (z + suc j ≡ 32) × (2 ^ j ≤ b) × (b < 2 ^ suc j) → Leading b z
    go z t =
        let j = t.0 in
        let J : j < 24 = lt_of_not-le (λ (g : 24 ≤ j). not-le_of_lt (lt_of_lt_of_le h (pow_mono g)) t.2) in
        let q : j + (z - 8) ≡ 23 = omega (arith, t.1) in
        let q' : suc j + (z - 8) ≡ 24 = omega arith in
        record {
          least = omega (arith, t.1);
          most = omega (arith, t.1);
          low = subst (λ (x : ℕ). x ≤ b * 2 ^ (z - 8)) (sym (pow-add 2 j (z - 8)) ∙ ap (λ (x : ℕ). 2 ^ x) q) (mul-le-mul_right (2 ^ (z - 8)) t.2);
          high = subst (λ (x : ℕ). b * 2 ^ (z - 8) < 2 ^ x) q' (shl_lt (suc j) (z - 8) t.3);
        }

-- a subnormal's digits b, moved up by t places
pub moved_up : (b t : ℕ) → t ≤ 26 → 2 * (b * 2 ^ 0) * 2 ^ 25 ≡ b * 2 ^ t * 2 ^ (26 - t)
moved_up b t h =
    omega arith ∙ ap (λ (x : ℕ). b * x) (ap (λ (x : ℕ). 2 ^ x) exponents ∙ pow-add 2 t (26 - t)) ∙ sym (mul_assoc b (2 ^ t) (2 ^ (26 - t)))
  where
    exponents : 26 ≡ t + (26 - t)
    exponents = omega arith

-- a significand m with the exponent's field k + 1
pub moved_down : (m k w : ℕ) → w ≡ k + 26 → 2 * (m * 2 ^ k) * 2 ^ 25 ≡ m * 2 ^ w
moved_down m k w h =
    let e : m * 2 ^ w ≡ m * 2 ^ k * 67108864 = ap (λ (x : ℕ). m * x) (ap (λ (x : ℕ). 2 ^ x) h ∙ pow-add 2 k 26) ∙ sym (mul_assoc m (2 ^ k) (2 ^ 26)) in
    omega arith
