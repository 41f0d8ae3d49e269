-- Weak marks worked out, by computation. Assumes nothing.
use mathlib.Core.Path.{◌≡◌, refl}
use mathlib.Core.List.{List, [], ◌∷◌}
use Prim.Native.Nat.{ℕ}
use lib.ListN.{length, take}
use lib.Ieee.{Float, of_bits}
use Rattle.folds.specs.Arith.{f32}
use Rattle.float.specs.Constants.{zero, half, one, two, four, minus_one}
use Rattle.median.specs.Median.{median_of}
use Rattle.strengths.specs.Weak.{weak_of}

abbrev three : Float
three = f32 0x4040_0000

abbrev minus_zero : Float
minus_zero = f32 0x8000_0000

-- the least numbers above and below 0: 2 ^ -149 and its negative
abbrev least : Float
least = f32 0x0000_0001

abbrev minus_least : Float
minus_least = f32 0x8000_0001

-- the marks of as many points as there are strengths
abbrev marked : List Float → Float → List ℕ
marked strengths fraction = take (length strengths) (weak_of (length strengths) strengths fraction)

-- ---- strictly below the threshold

equal-at-one : marked (three ∷ three ∷ three ∷ []) one ≡ 0 ∷ 0 ∷ 0 ∷ []
unfolding weak_of of_bits
equal-at-one = refl

equal-at-two : marked (three ∷ three ∷ three ∷ []) two ≡ 1 ∷ 1 ∷ 1 ∷ []
unfolding weak_of of_bits
equal-at-two = refl

single : marked (three ∷ []) two ≡ 1 ∷ []
unfolding weak_of of_bits
single = refl

no-point : weak_of 0 (three ∷ []) two ≡ weak_of 0 [] one
unfolding weak_of of_bits
no-point = refl

-- ---- entry n / 2: 2 of 1, 2, 3, and 3 of 1, 2, 3, 4, in whatever order they stand

odd_number : marked (three ∷ one ∷ two ∷ []) one ≡ 0 ∷ 1 ∷ 0 ∷ []
unfolding weak_of of_bits
odd_number = refl

even-number : marked (four ∷ two ∷ three ∷ one ∷ []) one ≡ 0 ∷ 1 ∷ 0 ∷ 1 ∷ []
unfolding weak_of of_bits
even-number = refl

-- ---- negative fractions and strengths: the thresholds are -1 and 1

fraction-below-zero : marked (one ∷ f32 0xc000_0000 ∷ two ∷ []) minus_one ≡ 0 ∷ 1 ∷ 0 ∷ []
unfolding weak_of of_bits
fraction-below-zero = refl

both-below-zero : marked (minus_one ∷ minus_one ∷ one ∷ []) minus_one ≡ 1 ∷ 1 ∷ 0 ∷ []
unfolding weak_of of_bits
both-below-zero = refl

-- ---- zeros: the first of equals stands first, so that the median is the one zero or the other, which no mark shows

plus-median : median_of (minus_least ∷ zero ∷ minus_zero ∷ []) ≡ zero
unfolding median_of of_bits
plus-median = refl

minus-median : median_of (minus_least ∷ minus_zero ∷ zero ∷ []) ≡ minus_zero
unfolding median_of of_bits
minus-median = refl

plus-zero : marked (minus_least ∷ zero ∷ minus_zero ∷ []) one ≡ 1 ∷ 0 ∷ 0 ∷ []
unfolding weak_of of_bits
plus-zero = refl

minus-zero : marked (minus_least ∷ minus_zero ∷ zero ∷ []) one ≡ 1 ∷ 0 ∷ 0 ∷ []
unfolding weak_of of_bits
minus-zero = refl

-- ---- one f32 product: half the least number is rounded to 0, and three quarters of it to itself

rounded-down : marked (zero ∷ least ∷ least ∷ []) half ≡ 0 ∷ 0 ∷ 0 ∷ []
unfolding weak_of of_bits
rounded-down = refl

rounded-up : marked (zero ∷ least ∷ least ∷ []) (f32 0x3f40_0000) ≡ 1 ∷ 0 ∷ 0 ∷ []
unfolding weak_of of_bits
rounded-up = refl

-- ---- 16,384 at both: 2 ^ 28

largest : marked (f32 0x4680_0000 ∷ f32 0x4680_0000 ∷ []) (f32 0x4680_0000) ≡ 1 ∷ 1 ∷ []
unfolding weak_of of_bits
largest = refl
