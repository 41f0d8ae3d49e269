-- Steps between offsets within 2, as numbers of 8 bits. Assumes nothing.
use mathlib.Core.Path.{◌≡◌, sym, ap, ◌∙◌}
use mathlib.Core.Bool.{true}
use Prim.Native.Nat.{ℕ, zero, suc, ◌*◌, ◌≤◌, ◌<◌}
use native.Mathlib.Nat.{mul-le-mul}
use native.Mathlib.Omega.{arith}
use lib.Dec.{eqb}
use lib.IntN.{ℤ, pos, negsuc, neg_ℤ, nat_abs, ◌-ℤ◌, ◌*ℤ◌}
use lib.Signed.{mag}
use mir.Syntax.{w8}
use mir.Val.{to_z, of_z, SFits}
use mir.ValLaws.{to_z-of_z}
use borrow.Author.Rules.{sfits_of}
use borrow.Author.Tests.{eqb-true, eq-eqb}
use Rattle.offsets.specs.Offsets.{−2, −1, ±0, +1, +2, is_within2}
use Rattle.offsets.proofs.Places.{each-within-2}
use Rattle.cells.specs.Cell.{agree}
use Rattle.cells.proofs.Edges.{agree_same, agree-true}
use Rattle.std.specs.Cmp.{both_ways}

-- a difference is at most 4
pub difference-small : (x y : ℤ) → is_within2 x ≡ true → is_within2 y ≡ true → nat_abs (x -ℤ y) ≤ 4
difference-small x y h l =
    each-within-2 (λ (x : ℤ). nat_abs (x -ℤ y) ≤ 4) (less −2 (omega arith, omega arith, omega arith, omega arith, omega arith)) (less −1 (omega arith, omega arith, omega arith, omega arith, omega arith))
    (less ±0 (omega arith, omega arith, omega arith, omega arith, omega arith)) (less +1 (omega arith, omega arith, omega arith, omega arith, omega arith)) (less +2 (omega arith, omega arith, omega arith, omega arith, omega arith)) x h
  where
    Small : ℤ → ℤ → Type 0
    Small x y = nat_abs (x -ℤ y) ≤ 4

    less : (x : ℤ) → Small x −2 × Small x −1 × Small x ±0 × Small x +1 × Small x +2 → Small x y
    less x s = each-within-2 (Small x) s.0 s.1 s.2 s.3 s.4 y l

mag-abs : (z : ℤ) → mag z ≤ nat_abs z
mag-abs (pos n) = omega arith
mag-abs (negsuc n) = omega arith

pub difference-fits : (x y : ℤ) → is_within2 x ≡ true → is_within2 y ≡ true → SFits w8 (x -ℤ y)
difference-fits x y h l = sfits_of (omega (arith, mag-abs (x -ℤ y), difference-small x y h l))

pub small-held : (z : ℤ) → nat_abs z ≤ 4 → to_z w8 (of_z w8 z) ≡ z
small-held z h = to_z-of_z w8 z (sfits_of (omega (arith, mag-abs z, h)))

mag-neg : (n : ℕ) → mag (neg_ℤ (pos n)) ≤ n
mag-neg zero = omega arith
mag-neg (suc n) = omega arith

-- a product of two such is at most 16
product_small : (x y : ℤ) → nat_abs x ≤ 4 → nat_abs y ≤ 4 → mag (x *ℤ y) ≤ 16
product_small (pos m) (pos n) h l = mul-le-mul {n₂ = 4} {m₂ = 4} h l
product_small (pos m) (negsuc n) h l = omega (arith, mag-neg (m * suc n), mul-le-mul {n₂ = 4} {m₂ = 4} h l)
product_small (negsuc m) (pos n) h l = omega (arith, mag-neg (suc m * n), mul-le-mul {n₂ = 4} {m₂ = 4} h l)
product_small (negsuc m) (negsuc n) h l = mul-le-mul {n₂ = 4} {m₂ = 4} h l

pub product-fits : (x y : ℤ) → nat_abs x ≤ 4 → nat_abs y ≤ 4 → SFits w8 (x *ℤ y)
product-fits x y h l = sfits_of (omega (arith, product_small x y h l))

-- numbers of 8 bits agree just where their bits do
pub agree_bits : (x y : ℤ) → mag x < 128 → mag y < 128 → eqb (of_z w8 x) (of_z w8 y) ≡ agree x y
agree_bits x y f g =
    both_ways (eqb (of_z w8 x) (of_z w8 y)) (agree x y)
    (λ e. agree_same x y (sym (to_z-of_z w8 x (sfits_of f)) ∙ ap (to_z w8) (eqb-true (of_z w8 x) (of_z w8 y) e) ∙ to_z-of_z w8 y (sfits_of g)))
    (λ e. eq-eqb (of_z w8 x) (of_z w8 y) (ap (of_z w8) (agree-true x y e)))
