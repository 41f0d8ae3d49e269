-- A number x is over c times the median just where more than half of the list, each times c, lie under x: a comparison with a median needs no
-- sorted list. Assumes nothing.
use mathlib.Core.Path.{◌≡◌, ◌∙◌}
use mathlib.Core.Bool.{Bool, true, ◌&&◌}
use mathlib.Core.List.{List}
use Prim.Native.Nat.{ℕ, ◌/◌, ◌<◌}
use native.Mathlib.Omega.{arith}
use lib.Dec.{T, ltb}
use lib.ListN.{length}
use lib.Ieee.{Float, nan, lt, le}
use lib.Ieee.Positive.{positive, above}
use Rattle.folds.specs.Arith.{◌⊗◌, zero_f}
use Rattle.folds.specs.Below.{tally}
use Rattle.folds.specs.Lists.{All, listed}
use Rattle.folds.proofs.Lists.{all_listed, count, count-listed, listed-length}
use Rattle.sort.proofs.Sorted.{sorted-at}
use Rattle.float.proofs.Order.{lt-after, not-over, under, mul-plain, mul-le, above_zero}
use Rattle.median.specs.Median.{median_of}

module _ (c x : Float) (cp : T (positive c)) where
  -- whether x is over c times a
  abbrev pub over_times : Float → Bool
  over_times a = lt (c ⊗ a) x

  falls : (a b : Float) → T (above a) → T (above b) → T (le b a) → over_times a ≡ true → over_times b ≡ true
  falls a b p q h o = lt-after (c ⊗ b) (c ⊗ a) x (mul-plain c b cp q) (mul-plain c a cp p) (mul-le c b a cp q p h) o

  over-median : (l : List Float) → All (λ (a : Float). T (above a)) l → 0 < length l → over_times (median_of l) ≡ ltb (length l / 2) (count over_times l)
  unfolding median_of
  over-median l al h =
      sorted-at lt over_times (λ (a : Float). T (above a)) (λ a b p q e o. falls a b p q (under a b e) o) (λ a b p q e o. falls b a q p (not-over a b p q e) o) nan l al (length l / 2) (omega arith)

  -- of the f k with t k, k below n
  pub over-median-of : (t : ℕ → Bool) (f : ℕ → Float) (n : ℕ) → ((k : ℕ) → k < n → t k ≡ true → lt zero_f (f k) ≡ true) → 0 < tally t n
      → over_times (median_of (listed t f n)) ≡ ltb (tally t n / 2) (tally (λ (k : ℕ). t k && over_times (f k)) n)
  over-median-of t f n pos some =
      over-median (listed t f n) (all_listed (λ (a : Float). T (above a)) t f n (λ k l e. above_zero (f k) (pos k l e))) (omega (arith, listed-length t f n))
      ∙ rw (listed-length t f n, count-listed over_times t f n)
