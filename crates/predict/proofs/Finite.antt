-- "No fill is NaN or infinite": what is predicted from positions of at most 2 ^ 14 in magnitude, over a list of at most nine offsets, is finite.
-- Assumes nothing.
use mathlib.Core.Path.{◌≡◌, refl, sym, ap, ◌∙◌}
use mathlib.Core.Bool.{Bool, true, false, cond}
use mathlib.Core.Logic.{inl, inr}
use mathlib.Core.List.{List}
use Prim.Native.Nat.{ℕ, zero, suc, ◌+◌, ◌*◌, ◌^◌, ◌≤◌, ◌<◌}
use native.Mathlib.Nat.{le_trans, lt-suc_self, le_step, mul-pos, mul_assoc, mul-one, mul-le-mul_right, mul_right_comm, mul-le-mul_left}
use native.Mathlib.Omega.{arith}
use borrow.Author.Tests.{ne_eqb}
use lib.Dec.{T}
use lib.Ieee.{Float, nan, inf, fin, binary32, up, down, unlike, le, div, round, of_bits}
use lib.Ieee.Exact.{HasValue}
use lib.Ieee.Fits.{down_pos}
use lib.Ieee.Order.{round_mono}
use lib.Ieee.Scale.{finite}
use lib.ListN.{length}
use lib.Pow.{pow_mono}
use Rattle.folds.specs.Arith.{◌⊕◌, ◌⊗◌, ◌⊘◌}
use Rattle.folds.specs.Below.{sum_of}
use Rattle.folds.proofs.Below.{tally-le}
use Rattle.float.specs.Constants.{half}
use Rattle.float.specs.Scalar.{abs_of}
use Rattle.float.proofs.Order.{plain, plain-cases, plain-round}
use Rattle.float.proofs.Sign.{abs-round}
use Rattle.float.proofs.Within.{Within, add-within, mul-within}
use Rattle.whole_floats.specs.Whole.{as_float}
use Rattle.whole_floats.proofs.Whole.{whole-int, whole-value, whole-finite}
use Rattle.offsets.specs.declared.Offset.{Offset}
use Rattle.predict.specs.Predict.{opposite, is_forward, side_at, is_pair, midpoint, pair_count, mean_of, prediction}
use Rattle.predict.specs.Theorems.{both_there, Met}
use Rattle.predict.specs.declared.PredictedPosition.{PredictedPosition}
use Rattle.std.specs.Prelude.{Some}
use Rattle.predict.proofs.Theorems.{counted-some}
use Rattle.std.proofs.lemmas.Bool.{and_parts}

-- ---- sums

within-up : (j k : ℕ) (x : Float) → j ≤ k → Within j x → Within k x
within-up j k nan h p = p
within-up j k (inf s) h p = p
within-up j k (fin s m e) h p = le_trans p (mul-le-mul_right (down e) (pow_mono {i = j} {j = k} h))

-- each turn at most doubles the bound
sum-within : (p : ℕ → Bool) (f : ℕ → Float) (k n : ℕ) → k + n < 127 → ((i : ℕ) → i < n → p i ≡ true → Within k (f i)) → Within (k + n) (sum_of p f n)
unfolding sum_of of_bits
sum-within p f k zero h each = omega arith
sum-within p f k (suc n) h each = let e : k + suc n ≡ suc (k + n) = omega arith in rw e (go (p n) refl (sum-within p f k n (omega arith) (λ i l. each i (le_step l))))
  where
    go : (b : Bool) → p n ≡ b → Within (k + n) (sum_of p f n) → Within (suc (k + n)) (cond b (sum_of p f n ⊕ f n) (sum_of p f n))
    go true e w = add-within (k + n) (sum_of p f n) (f n) (omega arith) w (within-up k (k + n) (f n) (omega arith) (each n (lt-suc_self n) e))
    go false e w = within-up (k + n) (suc (k + n)) (sum_of p f n) (omega arith) w

half-within : Within 0 half
unfolding of_bits
half-within = omega arith

half-way : (a b : Float) → Within 14 a → Within 14 b → Within 15 (half ⊗ (a ⊕ b))
half-way a b p q = mul-within 0 15 half (a ⊕ b) (omega arith) half-within (add-within 14 a b (omega arith) p q)

-- ---- a quotient by a whole number

finite-abs : (x : Float) → T (finite (abs_of x)) → T (finite x)
unfolding abs_of
finite-abs nan h = h
finite-abs (inf s) h = h
finite-abs (fin s m e) h = h

under-finite : (z t : Float) → T (plain z) → T (finite t) → T (le z t) → T (finite z)
unfolding le
under-finite z nan p f l = absurd f
under-finite z (inf s) p f l = absurd f
under-finite z (fin s n d) p f l = plain-cases (λ (a : Float). T (le a (fin s n d)) → T (finite a)) (λ h. h) (λ m e h. tt) z p l

-- what is at most 2 ^ k, k up to 24, rounds to a finite number
round-finite : (k : ℕ) (s : Bool) (a c : ℕ) → k ≤ 24 → 0 < c → a ≤ 2 ^ k * c → T (finite (round binary32 s a c))
round-finite k s a c h C l =
    finite-abs (round binary32 s a c)
    (rw (abs-round binary32 s a c)
    (under-finite (round binary32 false a c) (as_float (2 ^ k)) (plain-round binary32 a c) (whole-finite (2 ^ k) (pow_mono {i = k} {j = 24} h))
    (round_mono binary32 a c (2 ^ k) 1 C (omega arith) (rw (mul-one a) l))))

over-whole : (k : ℕ) (x y : Float) (n : ℕ) → k ≤ 24 → Within k x → 0 < n → HasValue y false n 1 → T (finite (x ⊘ y))
unfolding div
over-whole k nan y n h p q v = absurd p
over-whole k (inf s) y n h p q v = absurd p
over-whole k (fin s m e) nan n h p q v = absurd v
over-whole k (fin s m e) (inf t) n h p q v = absurd v
over-whole k (fin s m e) (fin t a d) n h p q v = rw (ne_eqb a 0 nonzero) (round-finite k (unlike s t) (m * up e * down d) (a * up d * down e) h (mul-pos over (down_pos e)) bound)
  where
    value : a * up d ≡ n * down d
    value = sym (mul-one (a * up d)) ∙ v.1

    over : 0 < a * up d
    over = rw value (mul-pos q (down_pos d))

    nonzero : a ≡ 0 → ⊥
    nonzero z = let w : a * up d ≡ 0 * up d = ap (λ (b : ℕ). b * up d) z in omega (arith, over, w)

    more : down d ≤ a * up d
    more = rw value (omega (arith, mul-le-mul_right {m = 1} {n = n} (down d) q))

    bound : m * up e * down d ≤ 2 ^ k * (a * up d * down e)
    bound =
        le_trans (mul-le-mul_right (down d) p)
        (rw (mul_right_comm (2 ^ k) (down e) (down d), mul_assoc (2 ^ k) (down d) (down e)) (mul-le-mul_left (2 ^ k) (mul-le-mul_right (down e) more)))

-- ---- the prediction

pub counted : (sides : List Offset) (there : Offset → Bool) → pair_count sides there ≤ length sides
unfolding pair_count
counted sides there = tally-le (is_pair sides there) (length sides)

module _ (sides : List Offset) (there : Offset → Bool) (few : length sides ≤ 9) where
  mean-finite : (f : Offset → Float) → ((o : Offset) → Met sides o → there o ≡ true → Within 14 (f o)) → 0 < pair_count sides there → T (finite (mean_of sides there f))
  unfolding mean_of
  mean-finite f each some =
      rw (whole-int (pair_count sides there))
      (over-whole (15 + length sides) (sum_of (is_pair sides there) (midpoint sides f) (length sides)) (as_float (pair_count sides there)) (pair_count sides there) (omega arith)
      (sum-within (is_pair sides there) (midpoint sides f) 15 (length sides) (omega arith) value) some (whole-value (pair_count sides there) (omega (arith, counted sides there))))
    where
      value : (i : ℕ) → i < length sides → is_pair sides there i ≡ true → Within 15 (midpoint sides f i)
      value i h e =
          let o = side_at sides i in
          let both = (and_parts (is_forward o) (both_there sides there i) e).1 in
          half-way (f o) (f (opposite o)) (each o (i, h, inl refl) (and_parts (there o) (there (opposite o)) both).0) (each (opposite o) (i, h, inr refl) (and_parts (there o) (there (opposite o)) both).1)

  pub prediction-finite : (x y : Offset → Float) (p : PredictedPosition) → ((o : Offset) → Met sides o → there o ≡ true → Within 14 (x o) × Within 14 (y o)) → prediction sides there x y ≡ Some p
      → T (finite p.x) × T (finite p.y)
  prediction-finite x y p each e =
      let c = counted-some sides there x y p e in
      let some : 0 < pair_count sides there = omega (arith, c.1) in
      rw c.0 (mean-finite x (λ o m t. (each o m t).0) some, mean-finite y (λ o m t. (each o m t).1) some)
