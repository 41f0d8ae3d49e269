-- A whole number that rises with a finite f32, and an array's numbers in the order of these keys. Assumes nothing.
use Rattle.std.specs.Prelude.{◌≡◌, cond, List, ℕ, ◌+◌, ◌-◌, ◌*◌, ◌<◌, T, ltb, get_or, Float}
use Rattle.std.specs.Float.{nan, binary32}
use Rattle.std.specs.Float.Ieee.{fits, to_bits}
use Rattle.std.specs.Float.Ieee.Scale.{finite}
use Rattle.folds.specs.Column.{column}
use Rattle.float.specs.Constants.{sign_bit}
use Rattle.view.specs.View.{max_points}
use Rattle.sort.specs.Packed.{in_order_of}

-- a finite f32
pub record Number (x : Float) : Type 0 where
  pub is_finite : T (finite x)
  pub is-f32 : T (fits binary32 x)

-- the pattern without its sign, counted up from 2 ^ 31, or down from there with the sign; +0 and -0 have one key
unfoldable pub rising_of : Float → ℕ
unfolding to_bits
rising_of x = cond (ltb (to_bits binary32 x) sign_bit) (sign_bit + to_bits binary32 x) (2 * sign_bit - to_bits binary32 x)

-- r is the key of x, which is a finite f32, and has 32 bits at most
pub record RisingKey (x : Float) (r : ℕ) : Type 0 where
  pub is : r ≡ rising_of x
  pub small : r < 2 * sign_bit
  pub number : Number x

-- the key of the number at k
abbrev pub key_at : List Float → ℕ → ℕ
key_at v k = rising_of (get_or v k nan)

-- the first n keys, each packed with its place, in rising order, and that the numbers are f32
pub record KeyedInOrder (v : List Float) (n : ℕ) (r : List ℕ) : Type 0 where
  pub is : r ≡ column max_points 0 n (λ (i : ℕ). get_or (in_order_of (key_at v) n) i 0)
  pub numbers : (k : ℕ) → k < n → Number (get_or v k nan)
