-- Whole numbers as the f32s of a file: their patterns have 32 bits, and are read back; up to 16,384 they are within the limit. Assumes nothing.
use mathlib.Core.Path.{◌≡◌, refl, sym, ◌∙◌, subst}
use mathlib.Core.Bool.{false}
use Prim.Native.Nat.{ℕ, ◌*◌, ◌^◌, ◌≤◌, ◌<◌}
use native.Mathlib.Nat.{mul-one, mul-le-mul_right}
use native.Mathlib.Omega.{arith}
use borrow.Author.Tests.{le-ltb}
use lib.Ieee.{Float, nan, inf, fin, binary32, up, down, round, of_bits}
use lib.Ieee.Bits.{to_bits-lt}
use lib.Ieee.Exact.{HasValue}
use Rattle.folds.specs.Arith.{f32, zero_f}
use Rattle.float.specs.Constants.{one, two}
use Rattle.whole_floats.specs.Whole.{as_float}
use Rattle.whole_floats.proofs.Whole.{whole-int, whole-fits, whole-value, pattern-back}
use Rattle.sheet_file.specs.Limit.{outside}
use Rattle.straight_row.specs.Row.{seven}
use Rattle.worst_sheet.specs.Worst.{float_bits}

pub bits_back : (n : ℕ) → f32 (float_bits n) ≡ as_float n
bits_back n = rw (whole-int n) (pattern-back n)

pub bits_small : (n : ℕ) → float_bits n < 2 ^ 32
bits_small n = rw (whole-int n) (to_bits-lt binary32 (as_float n) (whole-fits n))

value-inside : (x : Float) (n : ℕ) → n ≤ 16384 → HasValue x false n 1 → outside x ≡ false
value-inside nan n h v = absurd v
value-inside (inf s) n h v = absurd v
value-inside (fin s m e) n h v =
    le-ltb (16384 * down e) (m * up e) (subst (λ (x : ℕ). x ≤ 16384 * down e) (sym v.1 ∙ mul-one (m * up e)) (mul-le-mul_right (down e) h))

pub bits_inside : (n : ℕ) → n ≤ 16384 → outside (f32 (float_bits n)) ≡ false
bits_inside n h = rw (bits_back n) (value-inside (as_float n) n h (whole-value n (omega arith)))

-- 1, 2, 7 and 0
pub one-is : f32 (float_bits 1) ≡ one
unfolding of_bits round
one-is = bits_back 1 ∙ refl

pub two_is : f32 (float_bits 2) ≡ two
unfolding of_bits round
two_is = bits_back 2 ∙ refl

pub seven_is : f32 (float_bits 7) ≡ seven
unfolding of_bits round
seven_is = bits_back 7 ∙ refl

pub zero_is : f32 (float_bits 0) ≡ zero_f
unfolding of_bits round
zero_is = bits_back 0 ∙ refl
