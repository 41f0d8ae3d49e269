-- The f32 with a root of its own: a NaN, the zeros, the infinities and what is negative. Assumes nothing.
use mathlib.Core.Path.{◌≡◌, refl, sym, ap, ◌∙◌, subst}
use mathlib.Core.Bool.{Bool, true, false, cond}
use Prim.Native.Nat.{ℕ, zero, suc, ◌+◌, ◌*◌, ◌/◌, ◌%◌, ◌^◌, ◌<◌}
use native.Mathlib.Nat.{mul-pos, zero-mul, mul_assoc}
use native.Mathlib.Decide.{dec_lt}
use native.Mathlib.Omega.{arith}
use borrow.Author.Tests.{le-leb, lt-leb, eq-eqb, ne_eqb}
use lib.Dec.{T, leb, eqb}
use lib.Pow.{pow_pos}
use lib.IntN.{ℤ, pos}
use lib.Ieee.{Float, nan, inf, fin, binary32, down, up, odd, of_fields, of_bits, to_bits, fits, is_nan}
use lib.Ieee.Bits.{of_bits-to_bits}
use lib.Ieee.Fits.{down_pos}
use lib.Ieee.Exact.{HasValue, odd_sign}
use Rattle.std.proofs.Common.{Option, Some, None}
use Rattle.float.specs.Root.{root_of}
use Rattle.float.specs.Remainder.{remainder_of, distance_of}
use Rattle.float.specs.declared.Distance.{Distance}
use Rattle.float.specs.Constants.{sign_bit, infinity_bits, hidden_bit}
use Rattle.float.proofs.Nan.{only_nan}
use Rattle.float.proofs.Pattern.{of_bits_is}

-- a root that is x itself, with the remainder r
abbrev Own : Float → Option ℤ → Type 0
Own x r = ◌≡◌ {A = Distance} (record { value = x; remainder = r }) (distance_of x)

pub distance-of-nan : (x : Float) → is_nan x ≡ true → Own x None
unfolding root_of remainder_of
distance-of-nan x h = let e = only_nan x h in rw e

-- x from its pattern
pub pattern : (x : Float) (b : ℕ) → T (fits binary32 x) → to_bits binary32 x ≡ b → of_bits binary32 b ≡ x
pattern x b f h = ap (of_bits binary32) (sym h) ∙ of_bits-to_bits binary32 x f

-- of x from its pattern
pub own_distance : (x : Float) (b : ℕ) {r : Option ℤ} → T (fits binary32 x) → to_bits binary32 x ≡ b → Own (of_bits binary32 b) r → Own x r
own_distance x b {r} f h e = subst (λ (y : Float). Own y r) (pattern x b f h) e

pub distance-of-zero : Own (of_bits binary32 0) (Some (pos 0))
unfolding root_of remainder_of of_bits
distance-of-zero = refl

pub distance-of-minus-zero : Own (of_bits binary32 sign_bit) (Some (pos 0))
unfolding root_of remainder_of of_bits
distance-of-minus-zero = refl

pub distance-of-one : Own (of_bits binary32 0x3f80_0000) (Some (pos 0))
unfolding root_of remainder_of of_bits
distance-of-one = refl

pub distance-of-infinity : Own (of_bits binary32 infinity_bits) None
unfolding root_of remainder_of of_bits
distance-of-infinity = refl

-- a NaN, -infinity, or below 0
data Rootless : Float → Type 0 where
  no_number : Rootless nan
  infinite : Rootless (inf true)
  negative : (m : ℕ) (e : ℤ) → Rootless (fin true (suc m) e)

below-zero : (y : Float) (a c : ℕ) → 0 < a → HasValue y true a c → Rootless y
below-zero nan a c A h = absurd h
below-zero (inf s) a c A h = absurd h
below-zero (fin false m e) a c A h = absurd (let p = h.0 in let z : ◌≡◌ {A = ℕ} 0 1 = cc in omega arith)
below-zero (fin true zero e) a c A h = absurd (none (a * down e) (mul-pos A (down_pos e)) (sym (zero-mul (up e * c)) ∙ sym (mul_assoc 0 (up e) c) ∙ h.1))
  where
    none : (x : ℕ) → 0 < x → 0 ≡ x → ⊥
    none x p q = omega arith
below-zero (fin true (suc m) e) a c A h = negative m e

digits : (q k : ℕ) → 0 < q → Rootless (odd 24 true q k 149)
digits q k Q = below-zero (odd 24 true q k 149) (q * 2 ^ k) (2 ^ 149) (mul-pos Q (pow_pos k)) (odd_sign 24 true q k 149)

either : (b d : Bool) (q k : ℕ) → 0 < q → Rootless (cond b (cond d (inf true) nan) (odd 24 true q k 149))
either true true q k Q = infinite
either true false q k Q = no_number
either false d q k Q = digits q k Q

minus-fields : (x t : ℕ) → 0 < x * hidden_bit + t → Rootless (of_fields binary32 true x t)
unfolding of_fields
minus-fields zero t h = digits t 0 (omega arith)
minus-fields (suc x) t h = either (eqb (suc x) 255) (eqb t 0) (hidden_bit + t) x (omega arith)

plus-fields : (x t : ℕ) → x ≡ 255 → 0 < t → Rootless (of_fields binary32 false x t)
unfolding of_fields
plus-fields zero t h g = absurd (omega arith)
plus-fields (suc x) t h g = rw (eq-eqb (suc x) 255 h, ne_eqb t 0 (omega arith)) no_number

rootless : (b : ℕ) → infinity_bits < b → b < 2 ^ 32 → (b ≡ sign_bit → ⊥) → Rootless (of_bits binary32 b)
rootless b l h n = subst Rootless (sym (of_bits_is b)) (go (dec_lt b sign_bit))
  where
    go : Dec (b < sign_bit) → Rootless (of_fields binary32 (leb sign_bit b) (b % sign_bit / hidden_bit) (b % hidden_bit))
    go (yes g) = rw (lt-leb sign_bit b g) (plus-fields (b % sign_bit / hidden_bit) (b % hidden_bit) (omega arith) (omega arith))
    go (no g) = rw (le-leb sign_bit b (omega (arith, g))) (minus-fields (b % sign_bit / hidden_bit) (b % hidden_bit) (omega (arith, n, g)))

nan-of : {y : Float} → Rootless y → ◌≡◌ {A = Distance} (record { value = nan; remainder = None }) (distance_of y)
unfolding root_of remainder_of
nan-of no_number = refl
nan-of infinite = refl
nan-of (negative m e) = refl

pub no-root : (b : ℕ) → infinity_bits < b → b < 2 ^ 32 → (b ≡ sign_bit → ⊥) → ◌≡◌ {A = Distance} (record { value = nan; remainder = None }) (distance_of (of_bits binary32 b))
no-root b l h n = nan-of (rootless b l h n)
