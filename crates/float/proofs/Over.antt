-- 14,529,495 / 2 ^ 24 is the largest f32 whose square is below 3 / 4. Assumes nothing.
use mathlib.Core.Path.{◌≡◌, refl, sym, ap, ◌∙◌, subst}
use mathlib.Core.Bool.{Bool, true, false, ◌&&◌, ◌||◌}
use Prim.Native.Nat.{ℕ, zero, suc, ◌+◌, ◌-◌, ◌*◌, ◌^◌, ◌≤◌, ◌<◌}
use mathlib.Core.Logic.{inl, inr}
use native.Mathlib.Nat.{eq-or-lt_of_le, eq-zero-or-pos, lt_of_not-le, mul_assoc, mul_comm, zero-mul, mul-pos, le_of_mul-le-mul_right, lt_of_mul-lt-mul_right}
use native.Mathlib.Decide.{dec_le}
use native.Mathlib.Omega.{arith}
use borrow.Author.Tests.{lt-ltb, le-ltb, eq-eqb, ne_eqb}
use lib.Dec.{T, ltb, eqb}
use lib.Pow.{pow_mono, pow-add}
use lib.IntN.{ℤ, pos, negsuc}
use lib.Ieee.{Float, nan, inf, fin, binary32, up, down, lt, eq, le, fits, of_bits}
use lib.Ieee.Fits.{down_pos}
use Rattle.float.specs.Scalar.{over30_degrees, four_squares_below_three}
use Rattle.float.proofs.Digits.{digits}
use Rattle.float.proofs.Squares.{square_le, square-of}

pub limit : of_bits binary32 0x3f5d_b3d7 ≡ fin false 14529495 (negsuc 23)
unfolding of_bits
limit = refl

-- at most the limit: below
under : (n d : ℕ) → 0 < d → n * 16777216 ≤ 14529495 * d → 4 * (n * n) < 3 * (d * d)
under n d D h =
    let s : n * 16777216 * (n * 16777216) ≤ 14529495 * d * (14529495 * d) = square_le h in
    omega (arith, square-of n 16777216, square-of 14529495 d, mul-pos D D)

-- above the limit, in a fraction that 2 ^ 24 is a multiple of: not below
above : (n d g : ℕ) → g * d ≡ 16777216 → 14529495 * d < n * 16777216 → 3 * (d * d) ≤ 4 * (n * n)
above n d g e h =
    let k : 14529495 * d < n * g * d = subst (λ (x : ℕ). 14529495 * d < x) (ap (λ (x : ℕ). n * x) (sym e) ∙ sym (mul_assoc n g d)) h in
    let q : 14529495 < n * g = lt_of_mul-lt-mul_right d k in
    let s : 14529496 * 14529496 ≤ n * g * (n * g) = square_le q in
    let t : g * d * (g * d) ≡ 16777216 * 16777216 = ap (λ (x : ℕ). x * x) e in
    let G : 0 < g * g = some g e in
    le_of_mul-le-mul_right {m = 3 * (d * d)} {n = 4 * (n * n)} {k = g * g} (omega (arith, square-of n g, square-of g d, mul_comm (d * d) (g * g), mul_assoc 3 (d * d) (g * g), mul_assoc 4 (n * n) (g * g))) G
  where
    some : (g : ℕ) → g * d ≡ 16777216 → 0 < g * g
    some zero e = absurd (none (sym (zero-mul d) ∙ e))
      where
        none : ◌≡◌ {A = ℕ} 0 16777216 → ⊥
        none z = omega arith
    some (suc g) e = mul-pos (omega arith) (omega arith)

-- The two tests agree at m / 2 ^ k, for a significand m below 2 ^ 24
beyond : (m e : ℕ) → m < 16777216 → 14529495 * 2 ^ e < m * 16777216 → 3 * (2 ^ e * 2 ^ e) ≤ 4 * (m * m)
beyond m e M h = go (dec_le e 24)
  where
    go : Dec (e ≤ 24) → 3 * (2 ^ e * 2 ^ e) ≤ 4 * (m * m)
    go (yes l) = above m (2 ^ e) (2 ^ (24 - e)) (sym (pow-add 2 (24 - e) e) ∙ ap (λ (x : ℕ). 2 ^ x) back) h
      where
        back : 24 - e + e ≡ 24
        back = omega arith
    go (no f) = absurd (far (lt_of_not-le f))
      where
        far : 25 ≤ e → ⊥
        far g = omega (arith, pow_mono {i = 25} {j = e} g)

-- the comparison of a value that is not negative with the limit, as the numbers that `le` compares
decide : (x y n d : ℕ) → (x ≤ y → 4 * (n * n) < 3 * (d * d)) → (y < x → 3 * (d * d) ≤ 4 * (n * n)) → (ltb x y || (eqb x y && true)) ≡ four_squares_below_three n d
unfolding four_squares_below_three
decide x y n d p q = go (dec_le x y)
  where
    go : Dec (x ≤ y) → (ltb x y || (eqb x y && true)) ≡ ltb (4 * (n * n)) (3 * (d * d))
    go (no f) =
        let g = lt_of_not-le f in
        rw (le-ltb x y (omega arith), ne_eqb x y (omega arith), le-ltb (4 * (n * n)) (3 * (d * d)) (q g))
    go (yes l) =
        elim (eq-or-lt_of_le l) [
          | inl e ↦ rw (le-ltb x y (omega arith), eq-eqb x y e, lt-ltb (4 * (n * n)) (3 * (d * d)) (p l))
          | inr g ↦ rw (lt-ltb x y g, lt-ltb (4 * (n * n)) (3 * (d * d)) (p l))
        ]

beyond-at : (m : ℕ) (e : ℤ) → m < 16777216 → 14529495 * down e < m * up e * 16777216 → 3 * (down e * down e) ≤ 4 * (m * up e * (m * up e))
beyond-at m (pos k) M h = above (m * 2 ^ k) 1 16777216 refl h
beyond-at m (negsuc k) M h = beyond (m * 1) (suc k) (omega arith) h

low : (n d : ℕ) → 0 < d → ltb 0 (n * 1 + 0 * d) || four_squares_below_three n d ≡ true
unfolding four_squares_below_three
low n d D = elim (eq-zero-or-pos n) [
  | inl z ↦ go (ltb 0 (n * 1 + 0 * d)) (lt-ltb (4 * (n * n)) (3 * (d * d)) (under n d D (omega arith)))
  | inr p ↦ rw (lt-ltb 0 (n * 1 + 0 * d) (omega arith))
]
  where
    go : (a : Bool) {b : Bool} → b ≡ true → a || b ≡ true
    go true h = refl
    go false h = h

at-limit : (c : Float) → T (fits binary32 c) → le c (fin false 14529495 (negsuc 23)) ≡ over30_degrees c
unfolding le lt eq over30_degrees of_bits
at-limit nan h = refl
at-limit (inf true) h = refl
at-limit (inf false) h = refl
at-limit (fin true m e) h = rw (lt-ltb 0 (m * up e * 16777216 + 14529495 * down e) (omega (arith, down_pos e)), low (m * up e) (down e) (down_pos e))
at-limit (fin false m e) h =
    decide (m * up e * 16777216) (14529495 * down e) (m * up e) (down e) (under (m * up e) (down e) (down_pos e)) (beyond-at m e (small m h))
    ∙ sym (ap (λ (b : Bool). b || four_squares_below_three (m * up e) (down e)) (le-ltb (m * up e * 1) (0 * down e) (omega arith)))
  where
    small : (m : ℕ) → T (fits binary32 (fin false m e)) → m < 16777216
    small zero h = omega arith
    small (suc m) h = (digits false m e h).few

pub over-30-degrees : (c : Float) → T (fits binary32 c) → le c (of_bits binary32 0x3f5d_b3d7) ≡ over30_degrees c
over-30-degrees c h = ap (le c) limit ∙ at-limit c h
