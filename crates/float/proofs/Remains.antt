-- The theorem about the root with its remainder, for every f32, and worked examples. Assumes nothing.
use mathlib.Core.Path.{◌≡◌, refl, sym, ap, ◌∙◌, subst}
use mathlib.Core.Bool.{true, false, true≢false}
use Prim.Native.Nat.{ℕ, zero, suc, ◌+◌, ◌-◌, ◌*◌, ◌^◌, ◌≤◌, ◌<◌}
use native.Mathlib.Nat.{mul_assoc, mul_comm, mul_left_comm, mul-pos, one-mul, le_refl, le_antisymm, le_of_suc-le-suc, lt_of_not-le, mul-add, mul-le-mul_left, mul-le-mul_right, eq_of_mul-eq-mul_right}
use native.Mathlib.Decide.{dec_le}
use native.Mathlib.Omega.{arith}
use Rattle.std.proofs.Common.{Option, Some, None}
use Rattle.std.proofs.lemmas.Int.{ints}
use lib.Pow.{pow_pos, pow-add}
use lib.IntN.{ℤ, pos, negsuc, ◌+ℤ◌, ◌-ℤ◌}
use lib.Ieee.{Float, nan, inf, fin, binary32, up, down, of_bits, mul}
use lib.Ieee.Exact.{HasValue}
use lib.Ieee.Fits.{up_pos, down_pos}
use Rattle.float.specs.Root.{digits4, scaled, units, near_root, root_of}
use Rattle.float.specs.Remainder.{scaled_root, whole_root_of, remainder_in, is_no_remainder, is_zero}
use Rattle.float.specs.Theorems.{WithRemainder, FoundFor, RemainderTheorem, ExactTheorem}
use Rattle.float.specs.declared.ScaledRoot.{ScaledRoot}
use Rattle.float.proofs.Fractions.{rescaled, one_size, whole_square}
use Rattle.float.proofs.Near.{Remainder}
use Rattle.float.proofs.Pattern.{four-pow}
use Rattle.float.proofs.Squares.{square_le, square-of, next-square}
use Rattle.float.proofs.Theorems.{Rooted, rooted}

-- ---- powers of two

-- 2 ^ (a - b)
power_of : (a b : ℕ) → up (pos a -ℤ pos b) * 2 ^ b ≡ down (pos a -ℤ pos b) * 2 ^ a
power_of a b = elim (dec_le b a) [
  | yes h ↦ at (pos a -ℤ pos b) (a - b) (omega (arith, ints)) (omega arith)
  | no h ↦ below (pos a -ℤ pos b) (b - suc a) (omega (arith, ints, h)) (omega (arith, h))
]
  where
    at : (z : ℤ) (k : ℕ) → z ≡ pos k → a ≡ k + b → up z * 2 ^ b ≡ down z * 2 ^ a
    at z k e q = rw e (sym (pow-add 2 k b) ∙ ap (λ (x : ℕ). 2 ^ x) (sym q) ∙ sym (one-mul (2 ^ a)))

    below : (z : ℤ) (k : ℕ) → z ≡ negsuc k → b ≡ suc k + a → up z * 2 ^ b ≡ down z * 2 ^ a
    below z k e q = rw e (one-mul (2 ^ b) ∙ ap (λ (x : ℕ). 2 ^ x) q ∙ pow-add 2 (suc k) a)

-- 2 ^ 2h
up_twice : (h : ℤ) → up (h +ℤ h) ≡ up h * up h
up_twice (pos k) = pow-add 2 k k
up_twice (negsuc k) = refl

down_twice : (h : ℤ) → down (h +ℤ h) ≡ down h * down h
down_twice (pos k) = refl
down_twice (negsuc k) = ap (λ (x : ℕ). 2 ^ x) (omega arith) ∙ pow-add 2 (suc k) (suc k)

-- With 2 ^ h = H / D and H * 2 ^ d = D * 2 ^ 99: the scaled number r and its root s, scaled back.
number_back : (n r B F C A K H D : ℕ) → 0 < F → F ≡ B * B → C * A ≡ K * K → H * B ≡ D * K → r * F ≡ n * C → r * (D * D) * A ≡ n * (H * H)
number_back n r B F C A K H D p f c h e =
    eq_of_mul-eq-mul_right F p (r * (D * D) * A) (n * (H * H))
    (first r (D * D) A F ∙ ap (λ (y : ℕ). y * (D * D * A)) e ∙ second n C (D * D) A ∙ ap (λ (y : ℕ). n * y) (ap (λ (y : ℕ). D * D * y) c ∙ sym (square-of D K) ∙ ap (λ (y : ℕ). y * y) (sym h) ∙ square-of H B ∙ ap (λ (y : ℕ). H * H * y) (sym f)) ∙ sym (mul_assoc n (H * H) F))
  where
    first : (r q a f : ℕ) → r * q * a * f ≡ r * f * (q * a)
    first r q a f = simp (mul_assoc, mul_comm, mul_left_comm)

    second : (n c q a : ℕ) → n * c * (q * a) ≡ n * (q * (c * a))
    second n c q a = simp (mul_assoc, mul_left_comm)

root_back : (s B A K H D : ℕ) → H * B ≡ D * K → s * D * (K * A) ≡ s * (B * A) * H
root_back s B A K H D h = first s D K A ∙ ap (λ (y : ℕ). s * y * A) (sym h) ∙ second s H B A
  where
    first : (s d k a : ℕ) → s * d * (k * a) ≡ s * (d * k) * a
    first s d k a = simp (mul_assoc)

    second : (s h b a : ℕ) → s * (h * b) * a ≡ s * (b * a) * h
    second s h b a = simp (mul_assoc, mul_comm, mul_left_comm)

-- a whole root of the scaled number is s
only : (t s : ℕ) → Remainder (t * t) s → t ≡ s
only t s k = le_antisymm
    (le_of_suc-le-suc (omega (arith, lt_of_not-le (λ (g : s + 1 ≤ t). omega (arith, k, next-square s, square_le g)))))
    (le_of_suc-le-suc (omega (arith, lt_of_not-le (λ (g : t + 1 ≤ s). omega (arith, k, mul-le-mul_left s g, mul-add s t 1, below (omega arith))))))
  where
    below : t ≤ s → t * t ≤ s * t
    below l = mul-le-mul_right t l

-- ---- the theorem

module _ (x : Float) (n : ℕ) (k : Rooted x n (scaled n) (near_root (scaled n))) where
  abbrev r : ℕ
  r = scaled n

  abbrev s : ℕ
  s = near_root r

  abbrev h : ℤ
  h = pos 99 -ℤ pos (digits4 n)

  abbrev H : ℕ
  H = up h

  abbrev D : ℕ
  D = down h

  half : H * 2 ^ digits4 n ≡ D * 2 ^ 99
  half = power_of 99 (digits4 n)

  even : pos 198 -ℤ pos (2 * digits4 n) ≡ h +ℤ h
  even = omega (arith, ints)

  number : HasValue x false (r * (D * D)) (H * H)
  number =
      let f : 4 ^ digits4 n ≡ 2 ^ digits4 n * 2 ^ digits4 n = four-pow (digits4 n) ∙ pow-add 2 (digits4 n) (digits4 n) in
      let p : 0 < 4 ^ digits4 n = subst (λ (y : ℕ). 0 < y) (sym f) (mul-pos (pow_pos (digits4 n)) (pow_pos (digits4 n))) in
      rescaled x false n (2 ^ 150) (r * (D * D)) (H * H) (pow_pos 150) (number_back n r (2 ^ digits4 n) (4 ^ digits4 n) (4 ^ 24) (2 ^ 150) (2 ^ 99) H D p f refl half k.exact) k.given

  value : HasValue (root_of x) false (s * D) H
  value =
      rescaled (root_of x) false (s * 2 ^ (digits4 n + 50)) (2 ^ 149) (s * D) H (pow_pos 149)
      (root_back s (2 ^ digits4 n) (2 ^ 50) (2 ^ 99) H D half ∙ ap (λ (y : ℕ). s * y * H) (sym (pow-add 2 (digits4 n) 50)))
      k.value

  no_other : (t : ℕ) → r ≡ t * t → pos r -ℤ pos (s * s) ≡ pos 0
  no_other t e =
      let q : t ≡ s = only t s (subst (λ (y : ℕ). Remainder y s) e k.remains) in
      let u : r ≡ s * s = e ∙ ap (λ (y : ℕ). y * y) q in
      omega (arith, ints)

  -- (g / c)² is R / (2 ^ h)², so R is (g * H / (c * D))²
  fraction : (g c : ℕ) → 0 < c → HasValue x false (g * g) (c * c) → pos r -ℤ pos (s * s) ≡ pos 0
  fraction g c C v =
      let t = whole_square (c * D) r (g * H) (c * D) (le_refl (c * D)) (mul-pos C (down_pos h)) (moved r D c ∙ sym (one_size x false (g * g) (c * c) (r * (D * D)) (H * H) v number) ∙ sym (square-of g H)) in
      no_other t.0 t.1
    where
      moved : (r d c : ℕ) → r * (c * d * (c * d)) ≡ r * (d * d) * (c * c)
      moved r d c = simp (mul_assoc, mul_comm, mul_left_comm)

  squared : (g c : ℕ) → HasValue (root_of x) false g c → pos r -ℤ pos (s * s) ≡ pos 0 → HasValue x false (g * g) (c * c)
  squared g c v z =
      let e : r ≡ s * s = omega (arith, ints, z) in
      rescaled x false (r * (D * D)) (H * H) (g * g) (c * c) (mul-pos (up_pos h) (up_pos h))
      (sym (square-of g H) ∙ ap (λ (y : ℕ). y * y) (one_size (root_of x) false g c (s * D) H v value) ∙ square-of (s * D) c ∙ ap (λ (y : ℕ). y * (c * c)) (square-of s D ∙ ap (λ (y : ℕ). y * (D * D)) (sym e)))
      number

  with_remainder : WithRemainder x r h (scaled_root n)
  unfolding scaled_root
  with_remainder = record {
    scales = rw (even, up_twice h, down_twice h) number;
    even = even;
    low = k.large;
    high = omega (arith, k.remains, k.high, square_le {a = s} {b = 2 ^ 24 - 1} (omega (arith, k.high)));
    root_low = k.low;
    root_high = k.high;
    above = k.nearest.above;
    below = k.nearest.below;
    remains = refl;
    least = omega (arith, ints, k.remains);
    most = omega (arith, ints, k.remains);
    value = value;
    exact = (λ z. omega (arith, ints, z), λ e. omega (arith, ints, e));
    whole = no_other;
    squared = λ g c C v. (squared g c v, fraction g c C);
    fraction = fraction;
  }

-- every f32
pub found : RemainderTheorem
unfolding whole_root_of
found nan t = refl
found (inf s) t = refl
found (fin s zero e) t = refl
found (fin true (suc m) e) t = refl
found (fin false (suc m) e) t = (refl, with_remainder (fin false (suc m) e) (units (suc m) e) (rooted m e t))

zero_is : (z : ℤ) → is_zero z ≡ true → z ≡ pos 0
zero_is (pos zero) h = refl
zero_is (pos (suc n)) h = absurd (true≢false (sym h))
zero_is (negsuc n) h = absurd (true≢false (sym h))

pub exact : ExactTheorem
exact m e t =
    let x = fin false (suc m) e in
    let f = found x t in
    let k = f.1 in
    let n = units (suc m) e in
    let h = pos 99 -ℤ pos (digits4 n) in
    let w = scaled_root n in
    let shown : is_no_remainder (remainder_in (whole_root_of x)) ≡ is_zero w.remainder = ap (λ (y : Option ScaledRoot). is_no_remainder (remainder_in y)) f.0 in (
      λ z. (w.root * down h, up h, up_pos h, (k.squared (w.root * down h) (up h) (up_pos h) k.value).0 (zero_is w.remainder (sym shown ∙ z))),
      λ v. shown ∙ ap is_zero (k.fraction v.0 v.1 v.2 v.3),
    )

-- ---- worked examples

abbrev found_at : ℕ → Option ScaledRoot
found_at b = whole_root_of (of_bits binary32 b)

abbrev with : ℕ → ℤ → ℤ → Option ScaledRoot
with s z p = Some (record { root = s; remainder = z; power = p })

-- of 2, 5, 9 and 0x00000001
pub of_two : found_at 0x4000_0000 ≡ with 11863283 (pos 4817239) (pos 46)
unfolding whole_root_of of_bits
of_two = refl

pub of_five : found_at 0x40a0_0000 ≡ with 9378749 (negsuc 2582920) (pos 44)
unfolding whole_root_of of_bits
of_five = refl

pub of_nine : found_at 0x4110_0000 ≡ with (3 * 2 ^ 22) (pos 0) (pos 44)
unfolding whole_root_of of_bits
of_nine = refl

pub of_least : found_at 0x0000_0001 ≡ with 11863283 (pos 4817239) (pos 196)
unfolding whole_root_of of_bits
of_least = refl

-- of a zero there is S = 0, and of a negative, an infinity and NaN neither
pub of_zeros : (found_at 0x0000_0000 ≡ with 0 (pos 0) (pos 0)) × (found_at 0x8000_0000 ≡ with 0 (pos 0) (pos 0))
unfolding whole_root_of of_bits
of_zeros = (refl, refl)

pub of_others : (found_at 0xbf80_0000 ≡ None) × (found_at 0x7f80_0000 ≡ None) × (found_at 0xff80_0000 ≡ None) × (found_at 0x7fc0_0000 ≡ None)
unfolding whole_root_of of_bits
of_others = (refl, refl, refl, refl)

-- The f32 after 1 and the largest have the remainder S; 0x3FFC114A has 2 - S.
pub most_reached : (found_at 0x3f80_0001 ≡ with (2 ^ 23) (pos (2 ^ 23)) (pos 46)) × (found_at 0x7f7f_ffff ≡ with (2 ^ 24 - 1) (pos (2 ^ 24 - 1)) (negsuc 79))
unfolding whole_root_of of_bits
most_reached = (refl, refl)

pub least_nearly : found_at 0x3ffc_114a ≡ with 11771814 (negsuc 11771811) (pos 46)
unfolding whole_root_of of_bits
least_nearly = refl

-- A remainder of 0 does not show in the root as f32: 1 has it, and the next f32 has the same root and another remainder.
pub same_root : (root_of (of_bits binary32 0x3f80_0000) ≡ of_bits binary32 0x3f80_0000)
    × (root_of (of_bits binary32 0x3f80_0001) ≡ of_bits binary32 0x3f80_0000)
    × (found_at 0x3f80_0000 ≡ with (2 ^ 23) (pos 0) (pos 46))
    × (found_at 0x3f80_0001 ≡ with (2 ^ 23) (pos (2 ^ 23)) (pos 46))
unfolding root_of whole_root_of of_bits
same_root = (refl, refl, refl, refl)

-- Nor does it show in the square of the root, as rounded: that is the number itself here, and the remainder is -1.
pub same_square : (mul binary32 (of_bits binary32 0x3f80_0001) (of_bits binary32 0x3f80_0001) ≡ of_bits binary32 0x3f80_0002)
    × (root_of (of_bits binary32 0x3f80_0002) ≡ of_bits binary32 0x3f80_0001)
    × (found_at 0x3f80_0002 ≡ with (2 ^ 23 + 1) (negsuc 0) (pos 46))
unfolding root_of whole_root_of of_bits mul
same_square = (refl, refl, refl)

-- A float that is no f32 need not have it: R of half the least f32 is 0.
pub f32_needed : FoundFor (fin false 1 (negsuc 149)) → ⊥
unfolding scaled
f32_needed f = let l : 2 ^ 46 ≤ 0 = f.1.low in omega arith
