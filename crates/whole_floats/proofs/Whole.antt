-- Whole numbers as f32: they are in order, none is a NaN, and each is its own pattern read back; up to 2 ^ 24 it is that number, and a
-- difference is exact. Assumes nothing.
use mathlib.Core.Path.{◌≡◌, refl, sym, ◌∙◌}
use mathlib.Core.Bool.{Bool, false}
use Prim.Native.Nat.{ℕ, ◌-◌, ◌*◌, ◌≤◌, ◌<◌}
use native.Mathlib.Nat.{mul-one, mul_comm, mul_assoc, mul-pos, mul-le-mul_right, mul-sub}
use native.Mathlib.Omega.{arith}
use lib.Dec.{T}
use lib.IntN.{ℤ, pos}
use borrow.Author.Tests.{le-ltb}
use lib.Ieee.{Float, nan, inf, fin, binary32, up, down, fits, le, sum, neg, add, sub, of_int, of_bits, to_bits}
use lib.Ieee.Exact.{HasValue}
use lib.Ieee.Back.{round_whole}
use lib.Ieee.Bits.{of_bits-to_bits}
use lib.Ieee.Fits.{down_pos, round-fits}
use lib.Ieee.Order.{round_mono}
use lib.Ieee.Positive.{positive, positive_of_value}
use lib.Ieee.Scale.{round_same, finite}
use Rattle.folds.specs.Arith.{◌⊖◌}
use Rattle.float.proofs.Order.{plain, plain-round}
use Rattle.whole_floats.specs.Whole.{as_float}

-- ---- any whole number

-- what a cast of it gives
pub whole-int : (n : ℕ) → of_int binary32 (pos n) ≡ as_float n
unfolding of_int
whole-int n = refl

pub whole-fits : (n : ℕ) → T (fits binary32 (as_float n))
whole-fits n = round-fits binary32 false n 1

pub whole_plain : (n : ℕ) → T (plain (as_float n))
whole_plain n = plain-round binary32 n 1

pub whole-mono : (a b : ℕ) → a ≤ b → T (le (as_float a) (as_float b))
whole-mono a b h = round_mono binary32 a 1 b 1 (omega arith) (omega arith) (mul-le-mul_right 1 h)

pub pattern-back : (n : ℕ) → of_bits binary32 (to_bits binary32 (as_float n)) ≡ as_float n
pattern-back n = of_bits-to_bits binary32 (as_float n) (whole-fits n)

-- ---- up to 2 ^ 24

pub whole-value : (n : ℕ) → n ≤ 16777216 → HasValue (as_float n) false n 1
whole-value n h = round_whole binary32 false n h

pub whole-positive : (n : ℕ) → n ≤ 16777216 → 0 < n → T (positive (as_float n))
whole-positive n h p = positive_of_value (as_float n) n 1 (whole-value n h) p

value-finite : (x : Float) (s : Bool) (a c : ℕ) → HasValue x s a c → T (finite x)
value-finite nan s a c h = absurd h
value-finite (inf t) s a c h = absurd h
value-finite (fin t m e) s a c h = tt

pub whole-finite : (n : ℕ) → n ≤ 16777216 → T (finite (as_float n))
whole-finite n h = value-finite (as_float n) false n 1 (whole-value n h)

-- the smaller from the larger
module _ (a b : ℕ) (under : b ≤ a) where
  minus-parts : (s : Bool) (m : ℕ) (e : ℤ) (t : Bool) (n : ℕ) (d : ℤ) → HasValue (fin s m e) false a 1 → HasValue (fin t n d) false b 1
      → fin s m e ⊖ fin t n d ≡ as_float (a - b)
  unfolding sub add neg sum
  minus-parts s m e t n d p q =
      let c = down e * down d in
      let i : m * up e * down d ≡ a * c = rw (sym (mul-one (m * up e)) ∙ p.1) (mul_assoc a (down e) (down d)) in
      let j : n * up d * down e ≡ b * c = rw (sym (mul-one (n * up d)) ∙ q.1) (simp (mul_assoc, mul_comm)) in
      let k : (a * c - b * c) * 1 ≡ (a - b) * c = mul-one (a * c - b * c) ∙ rw (mul_comm a c, mul_comm b c, mul_comm (a - b) c) (sym (mul-sub c a b)) in
      rw (p.0, q.0, i, j, le-ltb (a * c) (b * c) (mul-le-mul_right c under))
      (round_same binary32 false (a * c - b * c) c (a - b) 1 (mul-pos (down_pos e) (down_pos d)) (omega arith) k)

  minus-of : (x y : Float) → HasValue x false a 1 → HasValue y false b 1 → x ⊖ y ≡ as_float (a - b)
  minus-of nan y p q = absurd p
  minus-of (inf s) y p q = absurd p
  minus-of (fin s m e) nan p q = absurd q
  minus-of (fin s m e) (inf t) p q = absurd q
  minus-of (fin s m e) (fin t n d) p q = minus-parts s m e t n d p q

  pub minus-whole : a ≤ 16777216 → as_float a ⊖ as_float b ≡ as_float (a - b)
  minus-whole h = minus-of (as_float a) (as_float b) (whole-value a h) (whole-value b (omega arith))
