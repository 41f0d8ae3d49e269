-- A float as a fraction a / c, in more than one way, and what a fraction with a whole square is. Assumes nothing.
use mathlib.Core.Path.{◌≡◌, sym, ap, ◌∙◌}
use mathlib.Core.Bool.{Bool}
use Prim.Native.Nat.{ℕ, zero, suc, ◌+◌, ◌-◌, ◌*◌, ◌/◌, ◌%◌, ◌≤◌, ◌<◌}
use native.Mathlib.Nat.{mul_assoc, mul_comm, mul_left_comm, mul_right_comm, add-mul, mul-pos, mul-sub, mod-lt, eq_of_mul-eq-mul_right}
use native.Mathlib.Decide.{dec_lt}
use native.Mathlib.Omega.{arith}
use Rattle.std.proofs.lemmas.Nat.{div-add-mod'}
use lib.Ieee.{Float, nan, inf, fin, up, down}
use lib.Ieee.Exact.{HasValue}
use lib.Ieee.Fits.{down_pos}
use Rattle.float.proofs.Squares.{square-of}

-- to another fraction of the same size
pub rescaled : (x : Float) (s : Bool) (a c b d : ℕ) → 0 < c → b * c ≡ a * d → HasValue x s a c → HasValue x s b d
rescaled nan s a c b d p h v = v
rescaled (inf t) s a c b d p h v = v
rescaled (fin t m e) s a c b d p h v = (
  v.0,
  eq_of_mul-eq-mul_right c p (m * up e * d) (b * down e)
      (mul_right_comm (m * up e) d c ∙ ap (λ (y : ℕ). y * d) v.1 ∙ mul_right_comm a (down e) d ∙ ap (λ (y : ℕ). y * down e) (sym h) ∙ mul_right_comm b c (down e)),
)

-- two fractions of one float
pub one_size : (x : Float) (s : Bool) (a c b d : ℕ) → HasValue x s a c → HasValue x s b d → a * d ≡ b * c
one_size nan s a c b d v w = absurd v
one_size (inf t) s a c b d v w = absurd v
one_size (fin t m e) s a c b d v w =
    eq_of_mul-eq-mul_right (down e) (down_pos e) (a * d) (b * c)
    (mul_right_comm a d (down e) ∙ ap (λ (y : ℕ). y * d) (sym v.1) ∙ mul_right_comm (m * up e) c d ∙ ap (λ (y : ℕ). y * c) w.1 ∙ mul_right_comm b (down e) c)

-- ---- r is the square of g / c

-- d = g % c for t = g / c, and below it stands the root that is left
smaller : (r t c d g : ℕ) → 0 < c → g ≡ t * c + d → r * (c * c) ≡ g * g → r * (d * d) ≡ (r * c - t * g) * (r * c - t * g)
smaller r t c d g p e h =
    eq_of_mul-eq-mul_right (c * c) (mul-pos p p) (r * (d * d)) (u * u) (moved r (d * d) (c * c) ∙ ap (λ (y : ℕ). d * d * y) h ∙ sym (square-of d g) ∙ ap (λ (y : ℕ). y * y) (sym one) ∙ square-of u c)
  where
    u : ℕ
    u = r * c - t * g

    one : u * c ≡ d * g
    one = mul_comm u c ∙ mul-sub c (r * c) (t * g) ∙ omega (arith, mul_left_comm c r c, h, mul_left_comm c t g, mul_assoc t c g, ap (λ (y : ℕ). y * g) e, add-mul (t * c) d g)

    moved : (a b c : ℕ) → a * b * c ≡ b * (a * c)
    moved a b c = simp (mul_assoc, mul_left_comm)

-- A whole number that is the square of a fraction g / c is that of a whole number: of g / c if c divides g, and else it is the square of a fraction
-- over the smaller g % c.
pub whole_square : (k r g c : ℕ) → c ≤ k → 0 < c → r * (c * c) ≡ g * g → (t : ℕ) × (r ≡ t * t)
whole_square zero r g c l p e = absurd (omega arith)
whole_square (suc k) r g c l p e = elim (dec_lt 0 (g % c)) [
  | yes d ↦ whole_square k r (r * c - g / c * g) (g % c) (omega (arith, mod-lt g p)) d (smaller r (g / c) c (g % c) g p (sym (div-add-mod' g c)) e)
  | no f ↦ (
    g / c,
    eq_of_mul-eq-mul_right (c * c) (mul-pos p p) r (g / c * (g / c)) (e ∙ ap (λ (y : ℕ). y * y) (divides (g / c * c) (g % c) (div-add-mod' g c) (omega (arith, f))) ∙ square-of (g / c) c),
  )
]
  where
    divides : (a d : ℕ) → a + d ≡ g → d ≡ 0 → g ≡ a
    divides a d q z = omega arith
