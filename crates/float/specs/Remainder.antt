-- The root with its remainder. "For a positive finite number, scaled by an even power of two so that its root lies from 2^23 up to below 2^24, hand
-- back the whole number S nearest that root and the exact signed remainder R − S², where R is the scaled number."
use Rattle.std.specs.Prelude.{ℕ, zero, suc, ◌*◌, Bool, true, false, ℤ, pos, negsuc, ◌-ℤ◌, Float, Option, Some, None}
use Rattle.std.specs.Float.{nan, inf, fin, binary32}
use Rattle.std.specs.Float.Ieee.{add, mul}
use Rattle.float.specs.Root.{near_root, digits4, scaled, units, root_of}
use Rattle.float.specs.Scalar.{norm_of}
use Rattle.float.specs.declared.ScaledRoot.{ScaledRoot}
use Rattle.float.specs.declared.Distance.{Distance}

-- S, R − S² and the power, for the number n / 2 ^ 150: R is n * 4 ^ 24 / 4 ^ d = n / 2 ^ 150 * 2 ^ (198 - 2 * d) for the d digits of n in base 4
unfoldable pub scaled_root : ℕ → ScaledRoot
unfolding digits4 scaled near_root
scaled_root n =
    let s = near_root (scaled n) in
    record { root = s; remainder = pos (scaled n) -ℤ pos (s * s); power = pos 198 -ℤ pos (2 * digits4 n) }

-- "Zero of either sign has S = 0 and remainder 0."
abbrev pub root_of_zero : ScaledRoot
root_of_zero = record { root = 0; remainder = pos 0; power = pos 0 }

-- "For negatives, infinity and NaN there is neither, and this is said."
unfoldable pub whole_root_of : Float → Option ScaledRoot
unfolding scaled_root
whole_root_of nan = None
whole_root_of (inf s) = None
whole_root_of (fin s zero e) = Some root_of_zero
whole_root_of (fin true (suc m) e) = None
whole_root_of (fin false (suc m) e) = Some (scaled_root (units (suc m) e))

abbrev pub remainder_in : Option ScaledRoot → Option ℤ
remainder_in None = None
remainder_in (Some r) = Some r.remainder

unfoldable pub remainder_of : Float → Option ℤ
unfolding whole_root_of
remainder_of x = remainder_in (whole_root_of x)

-- "Every distance carries this along": the root of x and its remainder
abbrev pub distance_of : Float → Distance
distance_of x = record { value = root_of x; remainder = remainder_of x }

-- the length of (x, y) and its remainder
abbrev pub length_of : Float → Float → Distance
length_of x y = record { value = norm_of x y; remainder = remainder_of (add binary32 (mul binary32 x x) (mul binary32 y y)) }

abbrev pub is_zero : ℤ → Bool
is_zero (pos zero) = true
is_zero (pos (suc n)) = false
is_zero (negsuc n) = false

abbrev pub is_no_remainder : Option ℤ → Bool
is_no_remainder None = false
is_no_remainder (Some z) = is_zero z

-- "whose remainder is 0"
abbrev pub is_exact : Distance → Bool
is_exact d = is_no_remainder d.remainder
