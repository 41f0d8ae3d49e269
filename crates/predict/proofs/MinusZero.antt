-- "A −0 comes out only where the division underflows: the sums begin at +0, and +0 plus −0 is +0." Assumes nothing.
use mathlib.Core.Path.{◌≡◌, refl, sym, ap, ◌∙◌}
use mathlib.Core.Bool.{Bool, true, false, cond, ◌&&◌, beq, false≢true}
use mathlib.Core.List.{List}
use Prim.{yes, no}
use Prim.Native.Nat.{ℕ, zero, suc, ◌+◌, ◌-◌, ◌*◌, ◌%◌, ◌^◌, ◌≤◌, ◌<◌}
use native.Mathlib.Nat.{le_trans, lt-suc_self, le_step, mul-pos, mul_comm, mul_assoc, mul-one, one-mul, mul_right_comm, mul-le-mul_right, mul-lt-mul_of_pos_right, lt_of_mul-lt-mul_right, add-mul, zero-mul, not-le_of_lt}
use native.Mathlib.Decide.{dec_lt}
use native.Mathlib.Numerals.{add-one}
use native.Mathlib.Omega.{arith}
use borrow.Author.Tests.{ltb-true, lt-ltb, ne_eqb, eqb-false}
use lib.Dec.{T, eqb, ltb, leb, leb→le}
use lib.IntN.{ℤ, pos, negsuc}
use lib.Ieee.{Float, nan, inf, fin, binary32, up, down, fits, lt, add, sum, div, round, of_int, of_bits}
use lib.Ieee.Fits.{up_pos, down_pos, add-fits, mul-fits, and_l, and_r}
use lib.Ieee.Bits.{of_bits-fits}
use lib.Ieee.Order.{round_mono}
use lib.Ieee.Positive.{positive, above, above_of_le}
use lib.ListN.{length}
use lib.Pow.{pow_pos, pow-add, pow-lt}
use Rattle.folds.specs.Arith.{◌⊕◌, ◌⊘◌, zero_f, f32}
use Rattle.folds.specs.Below.{sum_of}
use Rattle.float.specs.Constants.{half}
use Rattle.float.specs.Scalar.{abs_of}
use Rattle.float.proofs.Order.{plain, plain-cases, plain-round}
use Rattle.float.proofs.Sign.{abs-round}
use Rattle.whole_floats.proofs.Whole.{whole-int, whole-positive}
use Rattle.whole_floats.proofs.Signs.{div-plain}
use Rattle.offsets.specs.declared.Offset.{Offset}
use Rattle.predict.specs.Predict.{opposite, side_at, is_pair, midpoint, pair_count, mean_of}
use Rattle.predict.specs.Theorems.{MinusZeroTheorem}
use Rattle.predict.specs.declared.PredictedPosition.{PredictedPosition}
use Rattle.predict.proofs.Theorems.{counted-some}
use Rattle.predict.proofs.Finite.{counted}

abbrev is_minus_zero : Float → Bool
is_minus_zero nan = false
is_minus_zero (inf s) = false
is_minus_zero (fin s m e) = s && eqb m 0

plain-not : (z : Float) → T (plain z) → is_minus_zero z ≡ false
plain-not z p = plain-cases (λ (a : Float). is_minus_zero a ≡ false) refl (λ m e. refl) z p

above-not : (z : Float) → T (above (abs_of z)) → is_minus_zero z ≡ false
unfolding abs_of
above-not nan h = refl
above-not (inf s) h = refl
above-not (fin false m e) h = refl
above-not (fin true zero e) h = absurd h
above-not (fin true (suc m) e) h = ne_eqb (suc m) 0 (λ q. omega (arith, q))

-- ---- numbers of a format are whole in units of 2 ^ -149, and what is one unit or more does not round to 0

positive-unit : T (positive (round binary32 false 1 (2 ^ 149)))
unfolding round
positive-unit = tt

round-not : (s : Bool) (a c : ℕ) → 0 < c → c ≤ a * 2 ^ 149 → is_minus_zero (round binary32 s a c) ≡ false
round-not s a c C l =
    above-not (round binary32 s a c)
    (rw (abs-round binary32 s a c)
    (above_of_le (round binary32 false 1 (2 ^ 149)) (round binary32 false a c) positive-unit
    (round_mono binary32 1 (2 ^ 149) a c (pow_pos 149) C (rw (one-mul c) l))))

in-units : (s : Bool) (m : ℕ) (e : ℤ) → T (fits binary32 (fin s m e)) → (A : ℕ) × (m * up e * 2 ^ 149 ≡ A * down e)
unfolding fits
in-units s zero e h = (0, ap (λ (x : ℕ). x * 2 ^ 149) (zero-mul (up e)) ∙ zero-mul (2 ^ 149) ∙ sym (zero-mul (down e)))
in-units s (suc m) (pos k) h = (suc m * 2 ^ k * 2 ^ 149, sym (mul-one (suc m * 2 ^ k * 2 ^ 149)))
in-units s (suc m) (negsuc k) h =
    let odd = eqb (suc m % 2) 1 in
    let short = ltb (suc m) (2 ^ 24) in
    let held = and_r (odd && short) (leb (2 ^ suc k) (2 ^ 149)) (and_l (odd && short && leb (2 ^ suc k) (2 ^ 149)) (ltb (suc m * 1) (2 ^ 128 * 2 ^ suc k)) h) in
    (suc m * 2 ^ (149 - suc k), scaled (suc m) (suc k) 149 (low-enough (suc k) 149 (leb→le (2 ^ suc k) (2 ^ 149) held)))
  where
    low-enough : (j l : ℕ) → 2 ^ j ≤ 2 ^ l → j ≤ l
    low-enough j l p = elim (dec_lt l j) [ yes h ↦ absurd (not-le_of_lt (pow-lt {i = l} {j = j} h) p) | no f ↦ omega (arith, f) ]

    scaled : (a j l : ℕ) → j ≤ l → a * 1 * 2 ^ l ≡ a * 2 ^ (l - j) * 2 ^ j
    scaled a j l h = let e : l ≡ (l - j) + j = omega arith in ap (λ (x : ℕ). x * 2 ^ l) (mul-one a) ∙ ap (λ (x : ℕ). a * 2 ^ x) e ∙ ap (λ (x : ℕ). a * x) (pow-add 2 (l - j) j) ∙ sym (mul_assoc a (2 ^ (l - j)) (2 ^ j))

-- over a common denominator c, in units of which there are U to 1: numbers that are apart are one unit apart
one_apart : (a b c U A B : ℕ) → a * U ≡ A * c → b * U ≡ B * c → 0 < U → a < b → c ≤ (b - a) * U
one_apart a b c U A B p q h l =
    let more : a * U < b * U = mul-lt-mul_of_pos_right l h in
    let whole : A < B = lt_of_mul-lt-mul_right c {m = A} {n = B} (rw (← p, ← q) more) in
    let next : suc A * c ≤ B * c = mul-le-mul_right c whole in
    let split : b * U ≡ a * U + (b - a) * U = ap (λ (x : ℕ). x * U) (back a b l) ∙ add-mul a (b - a) U in
    omega (arith, next, split, p, q, step A c)
  where
    back : (a b : ℕ) → a < b → b ≡ a + (b - a)
    back a b l = omega arith

    step : (A c : ℕ) → suc A * c ≡ A * c + c
    step A c = omega (arith, add-mul A 1 c, one-mul c, add-one A)

-- ---- a sum

module _ (m n : ℕ) (e d : ℤ) where
  -- the numerators over the common denominator
  abbrev a : ℕ
  a = m * up e * down d

  abbrev b : ℕ
  b = n * up d * down e

  abbrev c : ℕ
  c = down e * down d

  plain-sum : (k l : ℕ) → is_minus_zero (round binary32 false k l) ≡ false
  plain-sum k l = plain-not (round binary32 false k l) (plain-round binary32 k l)

  under : 0 < c
  under = mul-pos (down_pos e) (down_pos d)

  module _ (A B : ℕ) (p : m * up e * 2 ^ 149 ≡ A * down e) (q : n * up d * 2 ^ 149 ≡ B * down d) where
    first-whole : a * 2 ^ 149 ≡ A * c
    first-whole = mul_right_comm (m * up e) (down d) (2 ^ 149) ∙ ap (λ (x : ℕ). x * down d) p ∙ mul_assoc A (down e) (down d)

    second-whole : b * 2 ^ 149 ≡ B * c
    second-whole = mul_right_comm (n * up d) (down e) (2 ^ 149) ∙ ap (λ (x : ℕ). x * down e) q ∙ mul_assoc B (down d) (down e) ∙ ap (λ (x : ℕ). B * x) (mul_comm (down d) (down e))

    -- of one sign, where the first is not 0: not less than the first
    both-not : 0 < m → is_minus_zero (round binary32 true (a + b) c) ≡ false
    both-not h = round-not true (a + b) c under (le_trans (one_apart 0 a c (2 ^ 149) 0 A (zero-mul (2 ^ 149) ∙ sym (zero-mul c)) first-whole (pow_pos 149) (mul-pos (mul-pos h (up_pos e)) (down_pos d))) (mul-le-mul_right {m = a - 0} {n = a + b} (2 ^ 149) (omega arith)))

    -- of two signs
    less-not : (s : Bool) → a < b → is_minus_zero (round binary32 s (b - a) c) ≡ false
    less-not s l = round-not s (b - a) c under (one_apart a b c (2 ^ 149) A B first-whole second-whole (pow_pos 149) l)

    more-not : (s : Bool) → b < a → is_minus_zero (round binary32 s (a - b) c) ≡ false
    more-not s l = round-not s (a - b) c under (one_apart b a c (2 ^ 149) B A second-whole first-whole (pow_pos 149) l)

    sum-not : (s t : Bool) → s && eqb m 0 ≡ false → is_minus_zero (sum binary32 s a t b c) ≡ false
    unfolding sum
    sum-not false false z = plain-sum (a + b) c
    sum-not true true z = both-not (let ne = eqb-false m 0 z in omega (arith, ne))
    sum-not false true z = signs (ltb a b) refl
      where
        signs : (l : Bool) → ltb a b ≡ l → is_minus_zero (cond l (round binary32 true (b - a) c) (round binary32 false (a - b) c)) ≡ false
        signs true k = less-not true (ltb-true a b k)
        signs false k = plain-sum (a - b) c
    sum-not true false z = signs (ltb a b) (ltb b a) refl
      where
        signs : (l r : Bool) → ltb b a ≡ r → is_minus_zero (cond l (round binary32 false (b - a) c) (round binary32 r (a - b) c)) ≡ false
        signs true r k = plain-sum (b - a) c
        signs false true k = more-not true (ltb-true b a k)
        signs false false k = plain-sum (a - b) c

-- a sum is not −0 where the first number is not
add-not : (x y : Float) → T (fits binary32 x) → T (fits binary32 y) → is_minus_zero x ≡ false → is_minus_zero (x ⊕ y) ≡ false
unfolding add
add-not nan y p q h = refl
add-not (inf s) nan p q h = refl
add-not (inf s) (inf t) p q h = go (beq s t)
  where
    go : (b : Bool) → is_minus_zero (cond b (inf s) nan) ≡ false
    go true = refl
    go false = refl
add-not (inf s) (fin t n d) p q h = refl
add-not (fin s m e) nan p q h = refl
add-not (fin s m e) (inf t) p q h = refl
add-not (fin s m e) (fin t n d) p q h = let u = in-units s m e p in let v = in-units t n d q in sum-not m n e d u.0 v.0 u.1 v.1 s t h

-- "the sums begin at +0"
sum_kept : (p : ℕ → Bool) (f : ℕ → Float) (n : ℕ) → ((i : ℕ) → i < n → T (fits binary32 (f i))) → T (fits binary32 (sum_of p f n)) × (is_minus_zero (sum_of p f n) ≡ false)
unfolding sum_of of_bits
sum_kept p f zero h = (of_bits-fits binary32 0, refl)
sum_kept p f (suc n) h = go (p n) (sum_kept p f n (λ i l. h i (le_step l)))
  where
    go : (b : Bool) → T (fits binary32 (sum_of p f n)) × (is_minus_zero (sum_of p f n) ≡ false) → T (fits binary32 (cond b (sum_of p f n ⊕ f n) (sum_of p f n))) × (is_minus_zero (cond b (sum_of p f n ⊕ f n) (sum_of p f n)) ≡ false)
    go true k = (add-fits binary32 (sum_of p f n) (f n), add-not (sum_of p f n) (f n) k.0 (h n (lt-suc_self n)) k.1)
    go false k = k

-- ---- the quotient

-- −0 is the quotient of a number below 0 alone
quotient-not : (x y : Float) → T (positive y) → is_minus_zero x ≡ false → x ⊘ y ≡ f32 0x8000_0000 → lt x zero_f ≡ true
unfolding lt div of_bits
quotient-not nan y p h e = absurd (false≢true (ap is_minus_zero e))
quotient-not (inf s) nan p h e = absurd p
quotient-not (inf s) (inf t) p h e = absurd p
quotient-not (inf s) (fin t n d) p h e = absurd (false≢true (ap is_minus_zero e))
quotient-not (fin false m d) y p h e = absurd (false≢true (sym (plain-not (fin false m d ⊘ y) (div-plain (fin false m d) y tt p)) ∙ ap is_minus_zero e))
quotient-not (fin true m d) y p h e =
    let ne = eqb-false m 0 h in
    let more : 0 < m * up d = mul-pos (omega (arith, ne)) (up_pos d) in
    lt-ltb 0 (m * up d * 1 + 0 * 1 * down d) (omega (arith, more, mul-one (m * up d)))

-- ---- the mean

module _ (sides : List Offset) (there : Offset → Bool) (few : length sides ≤ 16777216) where
  mean-below : (f : Offset → Float) → 0 < pair_count sides there → mean_of sides there f ≡ f32 0x8000_0000 → lt (sum_of (is_pair sides there) (midpoint sides f) (length sides)) zero_f ≡ true
  unfolding mean_of
  mean-below f some e =
      quotient-not (sum_of (is_pair sides there) (midpoint sides f) (length sides)) (of_int binary32 (pos (pair_count sides there)))
      (rw (whole-int (pair_count sides there)) (whole-positive (pair_count sides there) (omega (arith, counted sides there)) some))
      (sum_kept (is_pair sides there) (midpoint sides f) (length sides) (λ i h. mul-fits binary32 half (f (side_at sides i) ⊕ f (opposite (side_at sides i))))).1 e

-- THEOREM
pub minus-zero : MinusZeroTheorem
minus-zero sides there x y p few e =
    let c = counted-some sides there x y p e in
    let some : 0 < pair_count sides there = omega (arith, c.1) in (
      λ z. mean-below sides there few x some (sym (ap (λ (q : PredictedPosition). q.x) c.0) ∙ z),
      λ z. mean-below sides there few y some (sym (ap (λ (q : PredictedPosition). q.y) c.0) ∙ z),
    )
