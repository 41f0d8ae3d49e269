-- Squares and products of whole numbers. Assumes nothing.
use mathlib.Core.Path.{◌≡◌, ap, ◌∙◌}
use Prim.Native.Nat.{ℕ, ◌+◌, ◌*◌, ◌^◌, ◌≤◌, ◌<◌}
use native.Mathlib.Nat.{le_trans, le_of_lt, lt_of_le_of_lt, mul_comm, mul_assoc, mul-add, add-mul, mul-one, one-mul, mul_left_comm, mul-le-mul_left, mul-le-mul_right, mul-lt-mul_of_pos_right}
use native.Mathlib.Omega.{arith}
use lib.Pow.{shl_lt}

-- a number of i bits times one of j bits
pub product_lt : {a b : ℕ} (i j : ℕ) → a < 2 ^ i → b < 2 ^ j → a * b < 2 ^ (i + j)
product_lt {a} i j p q = lt_of_le_of_lt (mul-le-mul_left a (le_of_lt q)) (shl_lt i j p)

pub next-square : (r : ℕ) → (r + 1) * (r + 1) ≡ r * r + 2 * r + 1
next-square r = simp (mul-add, add-mul, mul-one, one-mul) (omega arith)

pub double-square : (q : ℕ) → 2 * q * (2 * q) ≡ 4 * (q * q)
double-square q = mul_assoc 2 q (2 * q) ∙ ap (λ (x : ℕ). 2 * x) (mul_comm q (2 * q) ∙ mul_assoc 2 q q) ∙ omega arith

pub odd-square : (q : ℕ) → (2 * q + 1) * (2 * q + 1) ≡ 4 * (q * q) + 4 * q + 1
odd-square q = omega (arith, next-square (2 * q), double-square q)

pub square_le : {a b : ℕ} → a ≤ b → a * a ≤ b * b
square_le {a} {b} h = le_trans (mul-le-mul_left a h) (mul-le-mul_right b h)

pub square-lt : {a b : ℕ} → a < b → a * a < b * b
square-lt {a} {b} h = lt_of_le_of_lt (mul-le-mul_left a (le_of_lt h)) (mul-lt-mul_of_pos_right h (omega arith))

-- the square of a product
pub square-of : (a b : ℕ) → a * b * (a * b) ≡ a * a * (b * b)
square-of a b = simp (mul_assoc, mul_left_comm)
