-- What the format asks of an f32 other than 0, and a finite f32 as a whole number of 2 ^ -149. Assumes nothing.
use mathlib.Core.Path.{◌≡◌, refl, sym, ap, ◌∙◌}
use mathlib.Core.Bool.{Bool, ◌&&◌}
use Prim.Native.Nat.{ℕ, zero, suc, ◌-◌, ◌+◌, ◌*◌, ◌%◌, ◌^◌, ◌≤◌, ◌<◌}
use native.Mathlib.Nat.{mul-one, one-mul, mul_assoc, zero-mul, eq_of_mul-eq-mul_right}
use native.Mathlib.Decide.{dec_le}
use native.Mathlib.Omega.{arith}
use lib.Dec.{T, ltb, leb, eqb, ltb→lt, leb→le}
use lib.IntN.{ℤ, pos, negsuc}
use lib.Pow.{pow_pos, pow-add, pow-lt}
use lib.Ieee.{Float, nan, inf, fin, binary32, up, down, fits}
use lib.Ieee.Exact.{HasValue}
use lib.Ieee.Fits.{down_pos, and_l, and_r}

-- what an f32 other than 0 has
pub record Digits (m : ℕ) (e : ℤ) : Type 0 where
  pub few : m < 2 ^ 24
  pub fine : down e ≤ 2 ^ 149
  pub small : m * up e < 2 ^ 128 * down e

pub digits : (s : Bool) (m : ℕ) (e : ℤ) → T (fits binary32 (fin s (suc m) e)) → Digits (suc m) e
unfolding fits
digits s m e f =
    let O = eqb (suc m % 2) 1 in
    let F = ltb (suc m) (2 ^ 24) in
    let D = leb (down e) (2 ^ 149) in
    let S = ltb (suc m * up e) (2 ^ 128 * down e) in
    let h = and_l (O && F && D) S f in
    record {
      few = ltb→lt (suc m) (2 ^ 24) (and_r O F (and_l (O && F) D h));
      fine = leb→le (down e) (2 ^ 149) (and_r (O && F) D h);
      small = ltb→lt (suc m * up e) (2 ^ 128 * down e) (and_r (O && F && D) S f);
    }

-- 2 ^ e is that many 2 ^ -149
pub exponent : (e : ℤ) → down e ≤ 2 ^ 149 → (j : ℕ) × (up e * 2 ^ 149 ≡ 2 ^ j * down e)
exponent (pos k) h = (k + 149, sym (pow-add 2 k 149) ∙ sym (mul-one (2 ^ (k + 149))))
exponent (negsuc k) h = elim (dec_le (suc k) 149) [
  | yes l ↦ (149 - suc k, (let e : 149 - suc k + suc k ≡ 149 = omega arith in one-mul (2 ^ 149) ∙ ap (λ (j : ℕ). 2 ^ j) (sym e) ∙ pow-add 2 (149 - suc k) (suc k)))
  | no f ↦ absurd (over (2 ^ suc k) (2 ^ 149) h (pow-lt {i = 149} {j = suc k} (omega (arith, f))))
]
  where
    over : (a b : ℕ) → a ≤ b → b < a → ⊥
    over a b p q = omega arith

-- and m * 2 ^ e is m times as many
pub in-units : (m : ℕ) (e : ℤ) → down e ≤ 2 ^ 149 → (j : ℕ) × (m * up e * 2 ^ 149 ≡ m * 2 ^ j * down e)
in-units m e h = let x = exponent e h in (x.0, mul_assoc m (up e) (2 ^ 149) ∙ ap (λ (a : ℕ). m * a) x.1 ∙ sym (mul_assoc m (2 ^ x.0) (down e)))

-- a number of 2 ^ -149 with a significand t of at most 24 bits
pub record Short (a : ℕ) : Type 0 where
  pub t : ℕ
  pub j : ℕ
  pub few : t < 2 ^ 24
  pub is : a ≡ t * 2 ^ j

-- every finite f32 is a whole number of 2 ^ -149
pub whole-units : (s : Bool) (m : ℕ) (e : ℤ) → T (fits binary32 (fin s m e)) → (a : ℕ) × Short a × HasValue (fin s m e) s a (2 ^ 149)
whole-units s zero e f = (0, record { t = 0; j = 0; few = pow_pos 24; is = refl }, (refl, nothing (up e) (2 ^ 149) (down e)))
  where
    nothing : (u k d : ℕ) → 0 * u * k ≡ 0 * d
    nothing u k d = simp zero-mul
whole-units s (suc m) e f =
    let d = digits s m e f in
    let x = in-units (suc m) e d.fine in
    (suc m * 2 ^ x.0, record { t = suc m; j = x.0; few = d.few; is = refl }, (refl, x.1))

-- and it is so in one way
pub one_number : (y : Float) (s : Bool) (a b : ℕ) → HasValue y s a (2 ^ 149) → HasValue y s b (2 ^ 149) → a ≡ b
one_number nan s a b p q = absurd p
one_number (inf t) s a b p q = absurd p
one_number (fin t m e) s a b p q = eq_of_mul-eq-mul_right (down e) (down_pos e) a b (sym p.1 ∙ q.1)

pub short : (y : Float) (s : Bool) (a : ℕ) → T (fits binary32 y) → HasValue y s a (2 ^ 149) → Short a
short nan s a f h = absurd h
short (inf t) s a f h = absurd h
short (fin t m e) s a f h = let w = whole-units t m e f in rw (one_number (fin t m e) t a w.0 (refl, h.1) w.2) w.1
