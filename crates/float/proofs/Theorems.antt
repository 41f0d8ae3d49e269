-- The theorems about the root, for every f32 that is finite and above 0, and the worked examples of the specification. Assumes nothing.
use mathlib.Core.Path.{◌≡◌, refl, sym, ap, ◌∙◌, subst}
use mathlib.Core.Bool.{Bool, true, false}
use Prim.Native.Nat.{ℕ, suc, ◌+◌, ◌-◌, ◌*◌, ◌/◌, ◌%◌, ◌^◌, ◌≤◌, ◌<◌}
use native.Mathlib.Nat.{le_of_lt, lt_of_lt_of_le, mul_assoc, mul_left_comm, mul_right_comm, mul-div_cancel, mul-lt-mul_of_pos_right, lt_of_mul-lt-mul_right}
use native.Mathlib.Omega.{arith}
use lib.Dec.{T, ltb→lt}
use lib.Pow.{pow_pos, pow-add, pow_mono, shl_lt}
use lib.Count.{count_leading_zeros}
use lib.IntN.{ℤ, pos}
use lib.Ieee.{Float, fin, binary32, up, down, size, odd, fits, of_bits, of_int, div, round}
use lib.Ieee.Exact.{HasValue, odd_sign}
use lib.Ieee.Fits.{down_pos, odd-fits}
use lib.Ieee.Digits.{size-le}
use Rattle.float.specs.Constants.{zero, quarter, half, one, two, four, minus_one, epsilon, negligible, line_tolerance, local_tolerance, overlong_ratio, global_overlong_ratio, duplicate_fraction, frontier_tolerance}
use Rattle.float.specs.Root.{digits4, scaled, units, near_root, root_units, root_of}
use Rattle.float.specs.Scalar.{over30_degrees}
use Rattle.float.proofs.Near.{NearRoot, Remainder, shifted, remainder, near-of-remainder, significand}
use Rattle.float.proofs.Digits.{digits, in-units, one_number, short}
use Rattle.float.proofs.Nearer.{NoNearer, no-nearer}
use Rattle.float.proofs.Pattern.{leading, four-pow, scaled-is, scaled_exact}
use Rattle.float.proofs.Squares.{odd-square, square-of}

-- x = n / 2 ^ 150 is an f32 above 0, r the scaled number and s the significand of the root
pub record Rooted (x : Float) (n r s : ℕ) : Type 0 where
  pub given : HasValue x false n (2 ^ 150)
  -- the scaling is exact, and by an even power of two
  pub exact : r * 4 ^ digits4 n ≡ n * 4 ^ 24
  -- it is 2 ^ 46 or more, so that its root has 24 bits
  pub large : 2 ^ 46 ≤ r
  -- s is the whole number nearest to the root of r
  pub nearest : NearRoot r s
  -- no root lies halfway between two whole numbers, so no tie occurs
  pub no_tie : (t : ℕ) → 4 * r ≡ (2 * t + 1) * (2 * t + 1) → ⊥
  -- 1 - s ≤ r - s * s ≤ s
  pub remains : Remainder r s
  -- s has 24 bits
  pub low : 2 ^ 23 ≤ s
  pub high : s < 2 ^ 24
  -- n has at most 139 digits in base 4
  pub few : digits4 n ≤ 139
  -- and the root is s, scaled back by the root of that power: s * 2 ^ (d + 50) / 2 ^ 149 for the d digits of n
  pub value : HasValue (root_of x) false (s * 2 ^ (digits4 n + 50)) (2 ^ 149)
  -- which is an f32
  pub an-f32 : T (fits binary32 (root_of x))
  -- "The root is the nearest f32": no finite f32 y whatever, of either sign, is nearer to the root of x; an infinity is at no finite distance
  -- from it, and a NaN at none. Each is a whole number of 2 ^ -149 (`whole-units`). In that unit the square of the root of x is n * 2 ^ 148, and
  -- 4 times that n * 2 ^ 150.
  pub no-nearer : (y : Float) (sign : Bool) (g a : ℕ) → T (fits binary32 y) → HasValue (root_of x) false g (2 ^ 149) → HasValue y sign a (2 ^ 149) → NoNearer (n * 2 ^ 150) g sign a

-- a number n of at most 24 bits, as m * 2 ^ w / 2 ^ 25 with a significand m of 24 bits
record Significand (n m w : ℕ) : Type 0 where
  pub low : 2 ^ 23 ≤ m
  pub high : m < 2 ^ 24
  pub places : 2 ≤ w
  pub same : n * 2 ^ 25 ≡ m * 2 ^ w

abbrev Significant : ℕ → Type 0
Significant n = (m : ℕ) × (w : ℕ) × Significand n m w

significant-of : (m a : ℕ) → 0 < m → m < 2 ^ 24 → Significant (2 * (m * 2 ^ a))
significant-of m a M h =
    let t = count_leading_zeros 32 m - 8 in
    let l = leading m M h in
    let q : a + 26 ≡ t + (a + 26 - t) = omega arith in
    let e : m * 2 ^ a * 2 ^ 26 ≡ m * 2 ^ t * 2 ^ (a + 26 - t) =
    mul_assoc m (2 ^ a) (2 ^ 26) ∙ ap (λ (x : ℕ). m * x) (sym (pow-add 2 a 26) ∙ ap (λ (x : ℕ). 2 ^ x) q ∙ pow-add 2 t (a + 26 - t)) ∙ sym (mul_assoc m (2 ^ t) (2 ^ (a + 26 - t))) in
    (m * 2 ^ t, a + 26 - t, record { low = l.low; high = l.high; places = omega arith; same = omega (arith, e) })

significant : (m : ℕ) (e : ℤ) → suc m < 2 ^ 24 → down e ≤ 2 ^ 149 → Significant (units (suc m) e)
significant m e h d =
    let x = in-units (suc m) e d in
    subst (λ (a : ℕ). Significant (2 * a)) (sym (ap (λ (a : ℕ). a / down e) x.1 ∙ mul-div_cancel (suc m * 2 ^ x.0) (down_pos e))) (significant-of (suc m) x.0 (omega arith) h)

-- n is x in units of 2 ^ -150
given_by : (m : ℕ) (e : ℤ) → down e ≤ 2 ^ 149 → HasValue (fin false m e) false (units m e) (2 ^ 150)
given_by m e d =
    let x = in-units m e d in
    let q : m * up e * 2 ^ 149 / down e ≡ m * 2 ^ x.0 = ap (λ (a : ℕ). a / down e) x.1 ∙ mul-div_cancel (m * 2 ^ x.0) (down_pos e) in
    (refl, twice (m * up e) (2 ^ 149) ∙ ap (λ (a : ℕ). 2 * a) (x.1 ∙ ap (λ (a : ℕ). a * down e) (sym q)) ∙ sym (mul_assoc 2 (m * up e * 2 ^ 149 / down e) (down e)))
  where
    twice : (a p : ℕ) → a * (2 * p) ≡ 2 * (a * p)
    twice a p = mul_left_comm a 2 p

-- an f32 below 2 ^ 128 has no more digits than this
few-digits : (n : ℕ) → n < 2 ^ 278 → digits4 n ≤ 139
unfolding digits4
few-digits n h = let s : size n ≤ 278 = size-le n 278 h in omega arith

root-fits : (n s : ℕ) → n < 2 ^ 278 → s < 2 ^ 24 → T (fits binary32 (odd 24 false s (digits4 n + 50) 149))
root-fits n s h l = odd-fits binary32 24 false s (digits4 n + 50) l (le_of_lt l) (lt_of_lt_of_le (shl_lt 24 (digits4 n + 50) l) (pow_mono (small (digits4 n) (few-digits n h))))
  where
    small : (d : ℕ) → d ≤ 139 → 24 + (d + 50) ≤ 277
    small d h = omega arith

below-overflow : (m : ℕ) (e : ℤ) → m * up e < 2 ^ 128 * down e → HasValue (fin false m e) false (units m e) (2 ^ 150) → units m e < 2 ^ 278
below-overflow m e h v =
    lt_of_mul-lt-mul_right (down e)
    (subst (λ (x : ℕ). x < 2 ^ 278 * down e) v.1
    (subst (λ (x : ℕ). m * up e * 2 ^ 150 < x) (mul_right_comm (2 ^ 128) (down e) (2 ^ 150)) (mul-lt-mul_of_pos_right h (pow_pos 150))))

-- 4 times the square of the root, in units of 2 ^ -149
in-units-squared : (n r d : ℕ) → r * 4 ^ d ≡ n * 4 ^ 24 → 4 * r * (2 ^ (d + 50) * 2 ^ (d + 50)) ≡ n * 2 ^ 150
in-units-squared n r d h =
    ap (λ (x : ℕ). 4 * r * x) (ap (λ (x : ℕ). x * x) (pow-add 2 d 50) ∙ square-of (2 ^ d) (2 ^ 50) ∙ ap (λ (x : ℕ). x * (2 ^ 50 * 2 ^ 50)) (sym (four-pow d ∙ pow-add 2 d d)))
    ∙ first r (4 ^ d) (2 ^ 50 * 2 ^ 50) ∙ ap (λ (x : ℕ). 4 * x * (2 ^ 50 * 2 ^ 50)) h ∙ last (4 ^ 24) (2 ^ 50 * 2 ^ 50)
  where
    first : (r c k : ℕ) → 4 * r * (c * k) ≡ 4 * (r * c) * k
    first r c k = simp (mul_assoc)

    last : (b k : ℕ) → 4 * (n * b) * k ≡ n * (4 * b * k)
    last b k = simp (mul_assoc, mul_left_comm)

of-significand : (x : Float) (n m w : ℕ) → HasValue x false n (2 ^ 150) → n < 2 ^ 278 → root_of x ≡ root_units n → Significand n m w → Rooted x n (scaled n) (near_root (scaled n))
unfolding root_units
of-significand x n m w given top e g =
    let b = shifted m (w % 2) g.low g.high (omega arith) in
    let i = scaled-is n m w g.low g.high g.places g.same in
    let k = remainder (scaled n) (omega (arith, i, b)) (omega (arith, i, b)) in
    let s = significand m (w % 2) g.low g.high (omega arith) in
    let exact = scaled_exact n m w g.low g.high g.places g.same in
    let nearest = near-of-remainder (scaled n) (near_root (scaled n)) k in
    let value : HasValue (root_of x) false (near_root (scaled n) * 2 ^ (digits4 n + 50)) (2 ^ 149) = rw e (odd_sign 24 false (near_root (scaled n)) (digits4 n + 50) 149) in
    let high : near_root (scaled n) < 2 ^ 24 = rw i s.1 in
    record {
      given = given;
      exact = exact;
      large = omega (arith, i, b);
      nearest = nearest;
      no_tie = λ t h. omega (arith, odd-square t);
      remains = k;
      low = rw i s.0;
      high = high;
      few = few-digits n top;
      value = value;
      an-f32 = rw e (root-fits n (near_root (scaled n)) top high);
      no-nearer = λ y sign q a f h v.
          rw (one_number (root_of x) false q (near_root (scaled n) * 2 ^ (digits4 n + 50)) h value, ← in-units-squared n (scaled n) (digits4 n) exact)
          (no-nearer (scaled n) (near_root (scaled n)) (digits4 n + 50) nearest (rw i s.0) (omega (arith, i, b)) sign a (short y sign a f v));
    }

-- every f32 that is finite and above 0
pub rooted : (m : ℕ) (e : ℤ) → T (fits binary32 (fin false (suc m) e))
    → let n = units (suc m) e in Rooted (fin false (suc m) e) n (scaled n) (near_root (scaled n))
unfolding root_of
rooted m e t =
    let h = digits false m e t in
    let g = significant m e h.few h.fine in
    let v = given_by (suc m) e h.fine in
    of-significand (fin false (suc m) e) (units (suc m) e) g.0 g.1 v (below-overflow (suc m) e h.small v) refl g.2

-- "Root of 2 is 0x3FB504F3"
pub root-of-two : root_of (of_bits binary32 0x4000_0000) ≡ of_bits binary32 0x3fb5_04f3
unfolding root_of of_bits
root-of-two = refl

-- It is 11,863,283 / 2 ^ 23, and nearer than its two neighbours 0x3FB504F2 and 0x3FB504F4: the root lies between the two means.
pub root-of-two-nearest : ((11863283 * 2 ^ 126 + 11863282 * 2 ^ 126) * (11863283 * 2 ^ 126 + 11863282 * 2 ^ 126) < 2 ^ 301)
    × (2 ^ 301 < (11863283 * 2 ^ 126 + 11863284 * 2 ^ 126) * (11863283 * 2 ^ 126 + 11863284 * 2 ^ 126))
unfolding root_of of_bits fits
root-of-two-nearest =
    let r = rooted 0 (pos 1) tt in (
      (r.no-nearer (of_bits binary32 0x3fb5_04f2) false (11863283 * 2 ^ 126) (11863282 * 2 ^ 126) tt (refl, refl) (refl, refl)).below (ltb→lt (11863282 * 2 ^ 126) (11863283 * 2 ^ 126) tt),
      (r.no-nearer (of_bits binary32 0x3fb5_04f4) false (11863283 * 2 ^ 126) (11863284 * 2 ^ 126) tt (refl, refl) (refl, refl)).above (ltb→lt (11863283 * 2 ^ 126) (11863284 * 2 ^ 126) tt),
    )

-- "of 0x00000001, 0x1A3504F3"
pub root-of-least : root_of (of_bits binary32 0x0000_0001) ≡ of_bits binary32 0x1a35_04f3
unfolding root_of of_bits
root-of-least = refl

-- "14,529,495 / 2^24 is over 30 degrees; 14,529,496 / 2^24 is not."
pub degrees-over : over30_degrees (div binary32 (of_int binary32 (pos 14529495)) (of_int binary32 (pos (2 ^ 24)))) ≡ true
unfolding over30_degrees div of_int
degrees-over = refl

pub degrees-not-over : over30_degrees (div binary32 (of_int binary32 (pos 14529496)) (of_int binary32 (pos (2 ^ 24)))) ≡ false
unfolding over30_degrees div of_int
degrees-not-over = refl

-- each constant is the nearest f32 to its decimal number, sign and fraction
pub constants : (zero ≡ round binary32 false 0 1)
    × (quarter ≡ round binary32 false 1 4)
    × (half ≡ round binary32 false 1 2)
    × (one ≡ round binary32 false 1 1)
    × (two ≡ round binary32 false 2 1)
    × (four ≡ round binary32 false 4 1)
    × (minus_one ≡ round binary32 true 1 1)
    × (epsilon ≡ round binary32 false 1 (2 ^ 23))
    × (negligible ≡ round binary32 false 1 (10 ^ 12))
    × (line_tolerance ≡ round binary32 false 15 100)
    × (local_tolerance ≡ round binary32 false 20 100)
    × (overlong_ratio ≡ round binary32 false 15 10)
    × (global_overlong_ratio ≡ round binary32 false 16 10)
    × (duplicate_fraction ≡ round binary32 false 2 10)
    × (frontier_tolerance ≡ round binary32 false 30 100)
unfolding round of_bits
constants = (refl, refl, refl, refl, refl, refl, refl, refl, refl, refl, refl, refl, refl, refl, refl)
