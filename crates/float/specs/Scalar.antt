-- The small functions on f32. "Each f32 operation is rounded once, in the source's order."
use Rattle.std.specs.Prelude.{ℕ, ◌*◌, Bool, false, cond, ◌||◌, ltb, Float}
use Rattle.std.specs.Float.{nan, inf, fin, binary32}
use Rattle.std.specs.Float.Ieee.{up, down, lt, is_nan, neg, add, mul, of_bits}
use Rattle.float.specs.Constants.{zero, one, minus_one}
use Rattle.float.specs.Root.{root_of}

-- the length of (x, y): the root of x * x + y * y
unfoldable pub norm_of : Float → Float → Float
unfolding root_of add mul
norm_of x y = root_of (add binary32 (mul binary32 x x) (mul binary32 y y))

-- Rust's f32::abs: the sign cleared
unfoldable pub abs_of : Float → Float
abs_of nan = nan
abs_of (inf s) = inf false
abs_of (fin s m e) = fin false m e

-- the larger of x and -x: the same but for the sign of a zero, which no comparison sees (`compares-as`)
unfoldable pub magnitude_of : Float → Float
unfolding lt neg
magnitude_of x = cond (lt (neg x) x) x (neg x)

-- Rust's f32::max and f32::min: the other one where one is a NaN, and the first of equals
unfoldable pub max_of : Float → Float → Float
unfolding lt is_nan
max_of a b = cond (is_nan a) b (cond (lt a b) b a)

unfoldable pub min_of : Float → Float → Float
unfolding lt is_nan
min_of a b = cond (is_nan a) b (cond (lt b a) b a)

-- Rust's clamp(-1.0, 1.0): a NaN stays
unfoldable pub clamp_of : Float → Float
unfolding lt
clamp_of x = cond (lt x minus_one) minus_one (cond (lt one x) one x)

-- 4 * c ^ 2 < 3 for the fraction c = num / den, exactly
unfoldable pub four_squares_below_three : ℕ → ℕ → Bool
four_squares_below_three num den = ltb (4 * (num * num)) (3 * (den * den))

-- "'over 30 degrees' means: cosine c below 0, or 4c² < 3 exactly." A finite c is ±m * 2 ^ e, and 2 ^ e the fraction up e / down e.
unfoldable pub over30_degrees : Float → Bool
unfolding lt four_squares_below_three of_bits
over30_degrees nan = false
over30_degrees (inf negative) = negative
over30_degrees (fin s m e) = lt (fin s m e) zero || four_squares_below_three (m * up e) (down e)
