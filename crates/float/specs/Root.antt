-- The root of an f32. "The root is the nearest f32, ties to even, specified over whole numbers; the significand of a subnormal is first
-- shifted up to 24 bits. sqrt(−0) is −0, a negative gives NaN, +infinity itself."
use Rattle.std.specs.Prelude.{ℕ, zero, suc, ◌+◌, ◌*◌, ◌/◌, ◌^◌, true, false, cond, leb, ltb, ℤ, Float}
use Rattle.std.specs.Float.{nan, inf, fin}
use Rattle.std.specs.Float.Ieee.{up, down, size, odd}

-- the root of an n below 4 ^ k, rounded down: a binary digit of the root for each base-4 digit of n
unfoldable pub floor_root : ℕ → ℕ → ℕ
floor_root zero n = 0
floor_root (suc k) n = let s = 2 * floor_root k (n / 4) in cond (leb ((s + 1) * (s + 1)) n) (s + 1) s

-- the whole number nearest to the root of an n below 4 ^ 24
unfoldable pub near_root : ℕ → ℕ
unfolding floor_root
near_root n = let s = floor_root 24 n in cond (ltb (s * s + s) n) (s + 1) s

-- how many digits n has in base 4
unfoldable pub digits4 : ℕ → ℕ
unfolding size
digits4 n = (size n + 1) / 2

-- n shifted by an even number of binary places to 24 digits in base 4, so that its root lies from 2 ^ 23 up to below 2 ^ 24
unfoldable pub scaled : ℕ → ℕ
unfolding digits4
scaled n = n * 4 ^ 24 / 4 ^ digits4 n

-- The root of n / 2 ^ 150, with the whole number nearest to the root of `scaled n` as its significand.
-- √(n / 2 ^ 150) = √(scaled n) * 2 ^ (d - 99) for the d digits of n, and d - 99 = d + 50 - 149.
unfoldable pub root_units : ℕ → Float
unfolding digits4 scaled near_root odd
root_units n = odd 24 false (near_root (scaled n)) (digits4 n + 50) 149

-- an f32 m * 2 ^ e is a whole number of 2 ^ -149, and so an even number of 2 ^ -150: that number
abbrev pub units : ℕ → ℤ → ℕ
units m e = 2 * (m * up e * 2 ^ 149 / down e)

-- the root of an f32, rounded to an f32
unfoldable pub root_of : Float → Float
unfolding root_units
root_of nan = nan
root_of (inf s) = cond s nan (inf s)
root_of (fin s zero e) = fin s zero e
root_of (fin true (suc m) e) = nan
root_of (fin false (suc m) e) = root_units (units (suc m) e)
