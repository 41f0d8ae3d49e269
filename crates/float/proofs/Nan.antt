-- A NaN: `x != x` is the test for it, and its patterns. Assumes nothing.
use mathlib.Core.Path.{◌≡◌, refl, sym, ◌∙◌, subst}
use mathlib.Core.Bool.{Bool, true, not}
use Prim.Native.Nat.{ℕ, ◌%◌, ◌≤◌, ◌<◌}
use native.Mathlib.Omega.{arith}
use borrow.Author.Tests.{lt-ltb, le-ltb}
use lib.Dec.{T}
use lib.Ieee.{Float, nan, inf, fin, is_nan, binary32, of_bits, nan_bits}
use lib.Ieee.Bits.{nan_bits_is, nan_bits_above}
use Rattle.float.specs.Constants.{infinity_bits, sign_bit}

pub only_nan : (x : Float) → is_nan x ≡ true → x ≡ nan
unfolding is_nan
only_nan nan h = refl
only_nan (inf s) h = absurd (let z : ◌≡◌ {A = ℕ} 0 1 = cc in omega arith)
only_nan (fin s m e) h = absurd (let z : ◌≡◌ {A = ℕ} 0 1 = cc in omega arith)

-- the patterns of a NaN, with either sign, are those above the infinity's
pub nan_pattern : (b : ℕ) → infinity_bits < b % sign_bit → of_bits binary32 b ≡ nan
nan_pattern b h = only_nan (of_bits binary32 b) (sym (nan_bits_is binary32 b) ∙ nan_bits_above binary32 b ∙ lt-ltb infinity_bits (b % sign_bit) h)

pub no-nan-pattern : (b : ℕ) → b % sign_bit ≤ infinity_bits → T (not (nan_bits binary32 b))
no-nan-pattern b h = subst (λ (t : Bool). T (not t)) (sym (nan_bits_above binary32 b ∙ le-ltb infinity_bits (b % sign_bit) h)) tt

-- the pattern of f32::NAN
pub nan-is : of_bits binary32 0x7fc0_0000 ≡ nan
unfolding of_bits
nan-is = refl
