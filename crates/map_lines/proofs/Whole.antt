-- Laws of whole numbers that are moved by one number. Assumes nothing.
use mathlib.Core.Path.{◌≡◌, refl, sym, ap, ◌∙◌}
use mathlib.Core.Bool.{Bool, true, false, cond, not}
use Prim.Native.Nat.{ℕ, zero, suc, ◌-◌, ◌≤◌}
use native.Mathlib.Omega.{arith}
use borrow.Author.Tests.{lt-ltb, le-ltb, ltb-true}
use lib.Dec.{ltb}
use lib.IntN.{ℤ, pos, negsuc, sub_ℕ, nat_abs, neg_ℤ, ◌+ℤ◌, ◌-ℤ◌, +ℤ_assoc, +ℤ_comm, +ℤ_invr, +ℤ_idr, neg_ℤ-+ℤ}
use lib.Signed.{lt_z, non_neg}
use Rattle.std.specs.Cmp.{both_ways}

below-by-difference : (a b : ℕ) → ltb a b ≡ not (non_neg (sub_ℕ a b))
below-by-difference a b = go (ltb a b)
  where
    go : (t : Bool) → t ≡ not (non_neg (cond t (negsuc (b - suc a)) (pos (a - b))))
    go true = refl
    go false = refl

-- the order by the difference
less-by-difference : (a b : ℤ) → lt_z a b ≡ not (non_neg (a -ℤ b))
less-by-difference (pos a) (pos zero) = le-ltb a 0 (omega arith)
less-by-difference (pos a) (pos (suc b)) = below-by-difference a (suc b)
less-by-difference (pos a) (negsuc b) = refl
less-by-difference (negsuc a) (pos zero) = rw (lt-ltb 0 (suc a) (omega arith))
less-by-difference (negsuc a) (pos (suc b)) = refl
less-by-difference (negsuc a) (negsuc b) =
    both_ways (ltb b a) (ltb (suc b) (suc a)) (λ e. lt-ltb (suc b) (suc a) (omega (arith, ltb-true b a e))) (λ e. lt-ltb b a (omega (arith, ltb-true (suc b) (suc a) e)))
    ∙ below-by-difference (suc b) (suc a)

-- a difference of moved numbers is that of the numbers
pub difference-moved : (a b c : ℤ) → (a +ℤ c) -ℤ (b +ℤ c) ≡ a -ℤ b
difference-moved a b c =
    ap (λ (z : ℤ). (a +ℤ c) +ℤ z) (neg_ℤ-+ℤ b c ∙ +ℤ_comm (neg_ℤ b) (neg_ℤ c))
    ∙ +ℤ_assoc a c (neg_ℤ c +ℤ neg_ℤ b)
    ∙ ap (λ (z : ℤ). a +ℤ z) (sym (+ℤ_assoc c (neg_ℤ c) (neg_ℤ b)) ∙ ap (λ (z : ℤ). z +ℤ neg_ℤ b) (+ℤ_invr c) ∙ +ℤ_comm (pos 0) (neg_ℤ b) ∙ +ℤ_idr (neg_ℤ b))

-- moved numbers have the order of the numbers
pub less-moved : (a b c : ℤ) → lt_z (a +ℤ c) (b +ℤ c) ≡ lt_z a b
less-moved a b c = less-by-difference (a +ℤ c) (b +ℤ c) ∙ ap (λ (z : ℤ). not (non_neg z)) (difference-moved a b c) ∙ sym (less-by-difference a b)

-- the distance of two numbers that are not below 0
pub distance : (a b : ℕ) → b ≤ a → nat_abs (pos a -ℤ pos b) ≡ a - b
distance a zero h = omega arith
distance a (suc b) h = rw (le-ltb a (suc b) h)
