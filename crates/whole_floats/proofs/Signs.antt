-- Floats of which only the sign is known: quotients and squares that are not negative, and sums that are zero or a NaN. Assumes nothing.
use mathlib.Core.Path.{◌≡◌, refl, sym, ◌∙◌, subst}
use mathlib.Core.Bool.{Bool, true, false, not, cond, ◌&&◌, ◌||◌, beq, true≢false}
use Prim.Native.Nat.{ℕ, zero, suc, ◌+◌, ◌-◌, ◌*◌, ◌<◌}
use native.Mathlib.Nat.{mul-one, zero-mul, mul-zero, mul-pos}
use native.Mathlib.Omega.{arith}
use lib.Dec.{T, eqb, ltb}
use lib.IntN.{ℤ, pos}
use borrow.Author.Tests.{lt-ltb, le-ltb, ltb-false, ne_eqb}
use lib.Ieee.{Float, nan, inf, fin, binary32, up, down, unlike, round, sum, neg, add, sub, mul, div, lt, le, is_nan, of_bits}
use lib.Ieee.Fits.{up_pos, down_pos}
use lib.Ieee.Positive.{positive}
use lib.Ieee.Scale.{round_same, finite}
use Rattle.folds.specs.Arith.{◌⊕◌, ◌⊖◌, ◌⊗◌, ◌⊘◌, zero_f}
use Rattle.float.specs.Scalar.{abs_of}
use Rattle.float.proofs.Order.{plain, plain-cases, positive-cases, plain-round}
use Rattle.float.proofs.Within.{round_number}

-- ---- not negative and no NaN

pub div-plain : (x y : Float) → T (plain x) → T (positive y) → T (plain (x ⊘ y))
unfolding div
div-plain x y p q =
    positive-cases (λ (b : Float). T (plain (x ⊘ b)))
    (λ n d h. plain-cases (λ (a : Float). T (plain (a ⊘ fin false n d))) tt
    (λ m e. rw (ne_eqb n 0 (λ z. omega (arith, z))) (plain-round binary32 (m * up e * down d) (n * up d * down e))) x p) y q

pub zero-le : (x : Float) → T (plain x) → le zero_f x ≡ true
unfolding le of_bits
zero-le x p = plain-cases (λ (a : Float). le zero_f a ≡ true) refl (λ m e. rw (zero-mul (down e)) (go (m * up e * 1))) x p
  where
    go : (n : ℕ) → ltb 0 n || (eqb 0 n && true) ≡ true
    go zero = refl
    go (suc n) = rw (lt-ltb 0 (suc n) (omega arith))

-- ---- no NaN

sum_number : (s : Bool) (a : ℕ) (t : Bool) (b c : ℕ) → is_nan (sum binary32 s a t b c) ≡ false
unfolding sum
sum_number s a t b c = go (beq s t) (ltb a b)
  where
    go : (x y : Bool) → is_nan (cond x (round binary32 s (a + b) c) (cond y (round binary32 t (b - a) c) (round binary32 (s && ltb b a) (a - b) c))) ≡ false
    go true y = round_number s (a + b) c
    go false true = round_number t (b - a) c
    go false false = round_number (s && ltb b a) (a - b) c

-- a finite number less any number
pub sub_number : (x y : Float) → T (finite x) → is_nan y ≡ false → is_nan (x ⊖ y) ≡ false
unfolding sub add neg is_nan
sub_number nan y p q = absurd p
sub_number (inf s) y p q = absurd p
sub_number (fin s m e) nan p q = q
sub_number (fin s m e) (inf t) p q = refl
sub_number (fin s m e) (fin t n d) p q = sum_number s (m * up e * down d) (not t) (n * up d * down e) (down e * down d)

-- ---- zero of either sign, or a NaN

pub data Nil : Float → Type 0 where
  none : Nil nan
  nought : (s : Bool) → Nil (fin s 0 (pos 0))

round-nought : (s : Bool) → round binary32 s 0 1 ≡ fin s 0 (pos 0)
unfolding round
round-nought s = refl

round-zero : (s : Bool) (a c : ℕ) → a ≡ 0 → 0 < c → round binary32 s a c ≡ fin s 0 (pos 0)
round-zero s a c e h = round_same binary32 s a c 0 1 h (omega arith) (rw (e, zero-mul c)) ∙ round-nought s

pub add-nil : (x y : Float) → Nil x → Nil y → Nil (x ⊕ y)
unfolding add sum round
add-nil x y none q = none
add-nil x y (nought s) none = none
add-nil x y (nought true) (nought true) = nought true
add-nil x y (nought true) (nought false) = nought false
add-nil x y (nought false) (nought true) = nought false
add-nil x y (nought false) (nought false) = nought false

pub mul-nil : (x y : Float) → Nil y → Nil (x ⊗ y)
unfolding mul
mul-nil nan y q = none
mul-nil (inf s) y none = none
mul-nil (inf s) y (nought t) = none
mul-nil (fin s m e) y none = none
mul-nil (fin s m e) y (nought t) =
    subst Nil (sym (round-zero (unlike s t) (m * up e * 0) (down e * 1) (mul-zero (m * up e)) (rw (mul-one (down e)) (down_pos e)))) (nought (unlike s t))

-- its magnitude is not above what is not below zero
pub nil-near : (c z : Float) → Nil z → lt c zero_f ≡ false → lt c (abs_of z) ≡ false
unfolding lt abs_of of_bits
nil-near nan z q h = refl
nil-near (inf s) z none h = refl
nil-near (inf s) z (nought t) h = h
nil-near (fin s m e) z none h = refl
nil-near (fin s m e) z (nought t) h = h

-- zero over a number above zero
pub zero-div : (y : Float) → T (positive y) → zero_f ⊘ y ≡ zero_f
unfolding div of_bits
zero-div y q =
    positive-cases (λ (b : Float). zero_f ⊘ b ≡ zero_f)
    (λ n d h. rw (ne_eqb n 0 (λ z. omega (arith, z))) (round-zero false (0 * down d) (n * up d * 1) (zero-mul (down d)) (rw (mul-one (n * up d)) (mul-pos h (up_pos d))))) y q

-- ---- what is not below zero, a NaN included

plain-over-zero : (x : Float) → T (plain x) → lt x zero_f ≡ false
unfolding lt of_bits
plain-over-zero x p = plain-cases (λ (a : Float). lt a zero_f ≡ false) refl (λ m e. rw (zero-mul (down e)) (le-ltb (m * up e * 1) 0 (omega arith))) x p

-- times what is not negative it is not below zero
pub times-plain : (t x : Float) → lt t zero_f ≡ false → T (plain x) → lt (t ⊗ x) zero_f ≡ false
unfolding mul lt of_bits
times-plain t x h p = plain-cases (λ (a : Float). lt (t ⊗ a) zero_f ≡ false) (to-infinity t h) (finite-times t h) x p
  where
    either : (b : Bool) → lt (cond b nan (inf false)) zero_f ≡ false
    either true = refl
    either false = refl

    below : (m : ℕ) (e : ℤ) → lt (fin true (suc m) e) zero_f ≡ false → ⊥
    below m e h = let positive : 0 < suc m * up e = mul-pos (omega arith) (up_pos e) in omega (arith, ltb-false 0 (suc m * up e * 1 + 0 * down e) h, positive)

    to-infinity : (t : Float) → lt t zero_f ≡ false → lt (t ⊗ inf false) zero_f ≡ false
    to-infinity nan h = refl
    to-infinity (inf true) h = absurd (true≢false h)
    to-infinity (inf false) h = refl
    to-infinity (fin false m e) h = either (eqb m 0)
    to-infinity (fin true zero e) h = refl
    to-infinity (fin true (suc m) e) h = absurd (below m e h)

    finite-times : (t : Float) → lt t zero_f ≡ false → (n : ℕ) (d : ℤ) → lt (t ⊗ fin false n d) zero_f ≡ false
    finite-times nan h n d = refl
    finite-times (inf true) h n d = absurd (true≢false h)
    finite-times (inf false) h n d = either (eqb n 0)
    finite-times (fin false m e) h n d = plain-over-zero (round binary32 false (m * up e * (n * up d)) (down e * down d)) (plain-round binary32 (m * up e * (n * up d)) (down e * down d))
    finite-times (fin true zero e) h n d = rw (round-zero true (0 * up e * (n * up d)) (down e * down d) (rw (zero-mul (up e)) (zero-mul (n * up d))) (mul-pos (down_pos e) (down_pos d)))
    finite-times (fin true (suc m) e) h n d = absurd (below m e h)
