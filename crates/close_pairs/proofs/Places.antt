-- Finite f32 numbers as whole numbers: an f32 is a whole number of 2 ^ -149, and its place is that number, counted from far below 0. The order
-- of numbers is that of their places, and their difference is the rounded distance of the places. Assumes nothing.
use mathlib.Core.Path.{◌≡◌, refl, sym, ap, ◌∙◌, subst}
use mathlib.Core.Bool.{Bool, true, false, cond}
use Prim.Native.Nat.{ℕ, zero, suc, ◌+◌, ◌-◌, ◌*◌, ◌/◌, ◌^◌, ◌≤◌, ◌<◌}
use native.Mathlib.Nat.{zero-mul, le_of_mul-le-mul_right, mul_assoc, mul_comm, mul_right_comm, mul-pos, mul-sub, add-mul, mul-le-mul_right, mul-lt-mul_of_pos_right, lt_of_mul-lt-mul_right, mul-div_cancel, zero-div}
use native.Mathlib.Omega.{arith}
use lib.Dec.{T, ltb}
use lib.IntN.{ℤ}
use lib.Pow.{pow_pos}
use borrow.Author.Tests.{lt-ltb, le-ltb, ltb-true, ltb-false}
use lib.Ieee.{Float, nan, inf, fin, binary32, up, down, fits, lt, neg, add, sub, sum, round}
use lib.Ieee.Fits.{down_pos}
use lib.Ieee.Scale.{round_same}
use Rattle.float.proofs.Digits.{digits, in-units}
use Rattle.median.specs.Keys.{Number, rising_of}
use Rattle.median.proofs.KeyOrder.{key-order}
use Rattle.folds.proofs.Below.{ltb_as}

-- how many 2 ^ -149 a finite f32 is away from 0
unfoldable pub steps : Float → ℕ
steps nan = 0
steps (inf s) = 0
steps (fin s m e) = m * up e * 2 ^ 149 / down e

-- where 0 stands
unfoldable pub origin : ℕ
origin = 2 ^ 277

unfoldable pub place : Float → ℕ
unfolding steps
place nan = 0
place (inf s) = 0
place (fin s m e) = cond s (origin - steps (fin s m e)) (origin + steps (fin s m e))

-- the distance of two places
abbrev pub apart : ℕ → ℕ → ℕ
apart p q = (p - q) + (q - p)

-- ---- a whole number of 2 ^ -149

whole : (m : ℕ) (e : ℤ) → down e ≤ 2 ^ 149 → m * up e * 2 ^ 149 / down e * down e ≡ m * up e * 2 ^ 149
whole m e h =
    let x = in-units m e h in
    ap (λ (a : ℕ). a / down e * down e) x.1 ∙ ap (λ (a : ℕ). a * down e) (mul-div_cancel (m * 2 ^ x.0) (down_pos e)) ∙ sym x.1

module _ (s : Bool) (e : ℤ) where
  pub exact : (m : ℕ) → T (fits binary32 (fin s m e)) → steps (fin s m e) * down e ≡ m * up e * 2 ^ 149
  unfolding steps
  exact zero f = none (up e) (2 ^ 149) (down e)
    where
      none : (a b d : ℕ) → 0 * a * b / d * d ≡ 0 * a * b
      none a b d = simp (zero-mul, zero-div)
  exact (suc m) f = whole (suc m) e (digits s m e f).fine

  small : (m : ℕ) → T (fits binary32 (fin s m e)) → m * up e < 2 ^ 128 * down e
  small zero f = none (up e) (2 ^ 128 * down e) (mul-pos (pow_pos 128) (down_pos e))
    where
      none : (a b : ℕ) → 0 < b → 0 * a < b
      none a b h = simp zero-mul h
  small (suc m) f = (digits s m e f).small

  pub bounded : (m : ℕ) → T (fits binary32 (fin s m e)) → steps (fin s m e) < origin
  unfolding origin
  bounded m f =
      lt_of_mul-lt-mul_right (down e)
      (subst (λ (a : ℕ). a < 2 ^ 277 * down e) (sym (exact m f))
      (subst (λ (a : ℕ). m * up e * 2 ^ 149 < a) (mul_right_comm (2 ^ 128) (down e) (2 ^ 149)) (mul-lt-mul_of_pos_right (small m f) (pow_pos 149))))

-- ---- two numbers over one denominator: A / Q and B / Q are a / P and b / P

module _ (A B a b P Q : ℕ) (pp : 0 < P) (qp : 0 < Q) (f : A * P ≡ a * Q) (g : B * P ≡ b * Q) where
  scaled-lt : a < b → A < B
  scaled-lt h = lt_of_mul-lt-mul_right P (subst (λ (x : ℕ). x < B * P) (sym f) (subst (λ (x : ℕ). a * Q < x) (sym g) (mul-lt-mul_of_pos_right h qp)))

  same-order : ltb A B ≡ ltb a b
  same-order = go (ltb a b) refl
    where
      go : (t : Bool) → ltb a b ≡ t → ltb A B ≡ t
      go true e = lt-ltb A B (scaled-lt (ltb-true a b e))
      go false e = le-ltb A B (back (ltb-false a b e))
        where
          back : b ≤ a → B ≤ A
          back h = le_of_mul-le-mul_right (subst (λ (x : ℕ). x ≤ A * P) (sym g) (subst (λ (x : ℕ). b * Q ≤ x) (sym f) (mul-le-mul_right Q h))) pp

  sum-scaled : (A + B) * P ≡ (a + b) * Q
  sum-scaled = add-mul A B P ∙ rw (f, g) (sym (add-mul a b Q))

  gap-scaled : (A - B) * P ≡ (a - b) * Q
  gap-scaled = mul_comm (A - B) P ∙ mul-sub P A B ∙ rw (mul_comm P A, mul_comm P B, f, g, mul_comm a Q, mul_comm b Q) (sym (mul-sub Q a b)) ∙ mul_comm Q (a - b)

module _ (s t : Bool) (m n : ℕ) (e d : ℤ) (f : T (fits binary32 (fin s m e))) (g : T (fits binary32 (fin t n d))) where
  over-a : m * up e * down d * 2 ^ 149 ≡ steps (fin s m e) * (down e * down d)
  over-a = mul_right_comm (m * up e) (down d) (2 ^ 149) ∙ ap (λ (x : ℕ). x * down d) (sym (exact s e m f)) ∙ mul_assoc (steps (fin s m e)) (down e) (down d)

  over-b : n * up d * down e * 2 ^ 149 ≡ steps (fin t n d) * (down e * down d)
  over-b = mul_right_comm (n * up d) (down e) (2 ^ 149) ∙ ap (λ (x : ℕ). x * down e) (sym (exact t d n g)) ∙ mul_assoc (steps (fin t n d)) (down d) (down e) ∙ ap (λ (x : ℕ). steps (fin t n d) * x) (mul_comm (down d) (down e))

  common : 0 < down e * down d
  common = mul-pos (down_pos e) (down_pos d)

  abbrev sizes : ltb (m * up e * down d) (n * up d * down e) ≡ ltb (steps (fin s m e)) (steps (fin t n d))
  sizes = same-order (m * up e * down d) (n * up d * down e) (steps (fin s m e)) (steps (fin t n d)) (2 ^ 149) (down e * down d) (pow_pos 149) common over-a over-b

  abbrev sizes-back : ltb (n * up d * down e) (m * up e * down d) ≡ ltb (steps (fin t n d)) (steps (fin s m e))
  sizes-back = same-order (n * up d * down e) (m * up e * down d) (steps (fin t n d)) (steps (fin s m e)) (2 ^ 149) (down e * down d) (pow_pos 149) common over-b over-a

  abbrev sizes-sum : ltb 0 ((m * up e * down d) + (n * up d * down e)) ≡ ltb 0 (steps (fin s m e) + steps (fin t n d))
  sizes-sum =
      let A = m * up e * down d in
      let B = n * up d * down e in
      let a = steps (fin s m e) in
      let b = steps (fin t n d) in
      let C = down e * down d in
      same-order 0 (A + B) 0 (a + b) (2 ^ 149) C (pow_pos 149) common (zero-mul (2 ^ 149) ∙ sym (zero-mul C)) (sum-scaled A B a b (2 ^ 149) C (pow_pos 149) common over-a over-b)

-- the order of numbers is that of their places
pub place-order : (x y : Float) → Number x → Number y → lt x y ≡ ltb (place x) (place y)
unfolding lt place
place-order nan y p q = absurd p.is_finite
place-order (inf s) y p q = absurd p.is_finite
place-order (fin s m e) nan p q = absurd q.is_finite
place-order (fin s m e) (inf t) p q = absurd q.is_finite
place-order (fin false m e) (fin false n d) p q =
    sizes false false m n e d p.is-f32 q.is-f32
    ∙ ltb_as (steps (fin false m e)) (steps (fin false n d)) (origin + steps (fin false m e)) (origin + steps (fin false n d)) (λ h. omega arith) (λ h. omega arith)
place-order (fin false m e) (fin true n d) p q = sym (le-ltb (origin + steps (fin false m e)) (origin - steps (fin true n d)) (omega arith))
place-order (fin true m e) (fin false n d) p q =
    sizes-sum true false m n e d p.is-f32 q.is-f32
    ∙ ltb_as 0 (steps (fin true m e) + steps (fin false n d)) (origin - steps (fin true m e)) (origin + steps (fin false n d)) (λ h. omega (arith, bounded true e m p.is-f32)) (λ h. omega (arith, bounded true e m p.is-f32))
place-order (fin true m e) (fin true n d) p q =
    sizes-back true true m n e d p.is-f32 q.is-f32
    ∙ ltb_as (steps (fin true n d)) (steps (fin true m e)) (origin - steps (fin true m e)) (origin - steps (fin true n d)) (λ h. omega (arith, bounded true e m p.is-f32, bounded true d n q.is-f32)) (λ h. omega arith)

-- keys that rise have places that rise
pub rising-order : (x y : Float) → Number x → Number y → rising_of x ≤ rising_of y → place x ≤ place y
rising-order x y p q h = ltb-false (place y) (place x) (sym (place-order y x q p) ∙ key-order y x q p ∙ le-ltb (rising_of y) (rising_of x) h)

-- ---- the difference

-- rounded, with one sign or the other
pub record Rounded (x : Float) (n : ℕ) : Type 0 where
  pub sign : Bool
  pub is : x ≡ round binary32 sign n (2 ^ 149)

as-round : (s : Bool) (N C D E : ℕ) → 0 < C → N * 2 ^ 149 ≡ D * C → D ≡ E → round binary32 s N C ≡ round binary32 s E (2 ^ 149)
as-round s N C D E h e q = round_same binary32 s N C D (2 ^ 149) h (pow_pos 149) e ∙ ap (λ (x : ℕ). round binary32 s x (2 ^ 149)) q

-- the smaller of two sizes is taken from the larger, and the sign is s or that of the larger
differ : (s t : Bool) (m n : ℕ) (e d : ℤ) (r u : Bool) (E : ℕ) → T (fits binary32 (fin s m e)) → T (fits binary32 (fin t n d)) → apart (steps (fin s m e)) (steps (fin t n d)) ≡ E
    → Rounded (cond (ltb (m * up e * down d) (n * up d * down e)) (round binary32 r (n * up d * down e - m * up e * down d) (down e * down d)) (round binary32 u (m * up e * down d - n * up d * down e) (down e * down d))) E
differ s t m n e d r u E f g q = go (ltb (m * up e * down d) (n * up d * down e)) (sizes s t m n e d f g)
  where
    go : (v : Bool) → v ≡ ltb (steps (fin s m e)) (steps (fin t n d)) → Rounded (cond v (round binary32 r (n * up d * down e - m * up e * down d) (down e * down d)) (round binary32 u (m * up e * down d - n * up d * down e) (down e * down d))) E
    go true h = record {
      sign = r;
      is = as-round r (n * up d * down e - m * up e * down d) (down e * down d) (steps (fin t n d) - steps (fin s m e)) E (common s t m n e d f g)
          (gap-scaled (n * up d * down e) (m * up e * down d) (steps (fin t n d)) (steps (fin s m e)) (2 ^ 149) (down e * down d) (pow_pos 149) (common s t m n e d f g) (over-b s t m n e d f g) (over-a s t m n e d f g))
          (omega (arith, ltb-true (steps (fin s m e)) (steps (fin t n d)) (sym h)));
    }
    go false h = record {
      sign = u;
      is = as-round u (m * up e * down d - n * up d * down e) (down e * down d) (steps (fin s m e) - steps (fin t n d)) E (common s t m n e d f g)
          (gap-scaled (m * up e * down d) (n * up d * down e) (steps (fin s m e)) (steps (fin t n d)) (2 ^ 149) (down e * down d) (pow_pos 149) (common s t m n e d f g) (over-a s t m n e d f g) (over-b s t m n e d f g))
          (omega (arith, ltb-false (steps (fin s m e)) (steps (fin t n d)) (sym h)));
    }

-- two sizes are added
join : (s t : Bool) (m n : ℕ) (e d : ℤ) (r : Bool) (E : ℕ) → T (fits binary32 (fin s m e)) → T (fits binary32 (fin t n d)) → steps (fin s m e) + steps (fin t n d) ≡ E
    → Rounded (round binary32 r (m * up e * down d + n * up d * down e) (down e * down d)) E
join s t m n e d r E f g q = record {
  sign = r;
  is = as-round r (m * up e * down d + n * up d * down e) (down e * down d) (steps (fin s m e) + steps (fin t n d)) E (common s t m n e d f g)
      (sum-scaled (m * up e * down d) (n * up d * down e) (steps (fin s m e)) (steps (fin t n d)) (2 ^ 149) (down e * down d) (pow_pos 149) (common s t m n e d f g) (over-a s t m n e d f g) (over-b s t m n e d f g)) q;
}

pub sub_is : (x y : Float) → Number x → Number y → Rounded (sub binary32 x y) (apart (place x) (place y))
unfolding sub add sum neg place
sub_is nan y p q = absurd p.is_finite
sub_is (inf s) y p q = absurd p.is_finite
sub_is (fin s m e) nan p q = absurd q.is_finite
sub_is (fin s m e) (inf t) p q = absurd q.is_finite
sub_is (fin false m e) (fin true n d) p q = join false true m n e d false (apart (origin + steps (fin false m e)) (origin - steps (fin true n d))) p.is-f32 q.is-f32 (omega (arith, bounded true d n q.is-f32))
sub_is (fin true m e) (fin false n d) p q = join true false m n e d true (apart (origin - steps (fin true m e)) (origin + steps (fin false n d))) p.is-f32 q.is-f32 (omega (arith, bounded true e m p.is-f32))
sub_is (fin false m e) (fin false n d) p q = differ false false m n e d true false (apart (origin + steps (fin false m e)) (origin + steps (fin false n d))) p.is-f32 q.is-f32 (omega arith)
sub_is (fin true m e) (fin true n d) p q =
    differ true true m n e d false (ltb (n * up d * down e) (m * up e * down d)) (apart (origin - steps (fin true m e)) (origin - steps (fin true n d))) p.is-f32 q.is-f32
    (omega (arith, bounded true e m p.is-f32, bounded true d n q.is-f32))
