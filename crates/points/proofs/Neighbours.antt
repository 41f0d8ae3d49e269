-- In a list in the order of a key, two elements with one key clash somewhere just where two neighbours do. Assumes nothing.
use mathlib.Core.Path.{◌≡◌, refl, sym, ◌∙◌}
use mathlib.Core.Bool.{Bool, true, false}
use Prim.{Dec, yes, no}
use Prim.Native.Nat.{ℕ, zero, suc, ◌+◌, ◌-◌, ◌≤◌, ◌<◌}
use native.Mathlib.Decide.{ℕ_discrete}
use native.Mathlib.Nat.{eq-or-lt_of_le}
use native.Mathlib.Omega.{arith}
use mathlib.Core.Logic.{◌⊎◌, inl, inr}
use lib.Dec.{eqb, ltb}
use borrow.Author.Tests.{eq-eqb, ne_eqb}
use Rattle.folds.specs.Among.{pair_in}
use Rattle.folds.proofs.Among.{pair-yes, pair-no, pair-order}
use Rattle.folds.specs.Below.{some}
use Rattle.folds.proofs.Below.{some_at, some-fails}
use Rattle.folds.specs.Lists.{list_of}
use Rattle.sort.proofs.Sorted.{sort-perm}
use Rattle.points.specs.Entries.{clash, Likeness}
use Rattle.sort.specs.Packed.{packed_places, placed}
use Rattle.sort.proofs.Packed.{placed-key, placed-rises, things-in-order}
use Rattle.std.proofs.lemmas.Bool.{not-false}

pub eqb_swap : (a b : ℕ) → eqb a b ≡ eqb b a
eqb_swap a b = go (ℕ_discrete a b)
  where
    go : Dec (a ≡ b) → eqb a b ≡ eqb b a
    go (yes e) = eq-eqb a b e ∙ sym (eq-eqb b a (sym e))
    go (no f) = ne_eqb a b f ∙ sym (ne_eqb b a (λ e. f (sym e)))

module _ {A : Type 0} (key : A → ℕ) (same : A → A → Bool) where
  no-clash : (p q : A) → (key p ≡ key q → same p q ≡ true) → clash key same p q ≡ false
  no-clash p q h = go (ℕ_discrete (key p) (key q))
    where
      go : Dec (key p ≡ key q) → clash key same p q ≡ false
      go (yes e) = rw (eq-eqb (key p) (key q) e, h e)
      go (no f) = rw (ne_eqb (key p) (key q) f)

  then_same : (p q : A) → clash key same p q ≡ false → key p ≡ key q → same p q ≡ true
  then_same p q e k = not-false (same p q) (rw (eq-eqb (key p) (key q) k) at e)

  module _ (alike : Likeness same) where
    module _ (f : ℕ → A) (n : ℕ) (rises : (i j : ℕ) → i ≤ j → j < n → key (f i) ≤ key (f j)) where
      -- neighbours that do not clash
      chain : ((r : ℕ) → r + 1 < n → clash key same (f r) (f (r + 1)) ≡ false) → (d i : ℕ) → i + suc d < n → key (f i) ≡ key (f (i + suc d)) → same (f i) (f (i + suc d)) ≡ true
      chain h zero i l e = let step : i + suc zero ≡ i + 1 = omega arith in rw step (then_same (f i) (f (i + 1)) (h i (omega arith)) (rw step at e))
      chain h (suc d) i l e =
          let step : i + suc (suc d) ≡ i + suc d + 1 = omega arith in
          let k : key (f i) ≡ key (f (i + suc d + 1)) = rw step at e in
          let lo = rises i (i + suc d) (omega arith) (omega arith) in
          let hi = rises (i + suc d) (i + suc d + 1) (omega arith) (omega arith) in
          rw step
          (alike.through (f i) (f (i + suc d)) (f (i + suc d + 1)) (chain h d i (omega arith) (omega arith))
          (then_same (f (i + suc d)) (f (i + suc d + 1)) (h (i + suc d) (omega arith)) (omega arith)))

      none : ((r : ℕ) → r + 1 < n → clash key same (f r) (f (r + 1)) ≡ false) → pair_in (clash key same) (list_of n f) ≡ false
      none h =
          pair-no f n (clash key same)
          (λ i j ij jn. let step : i + suc (j - suc i) ≡ j = omega arith in no-clash (f i) (f j) (λ e. rw step at (chain h (j - suc i) i (omega arith) (rw step e))))

      pub neighbours : pair_in (clash key same) (list_of n f) ≡ some (λ (r : ℕ). clash key same (f r) (f (r + 1))) (n - 1)
      neighbours = go (some (λ (r : ℕ). clash key same (f r) (f (r + 1))) (n - 1)) refl
        where
          go : (b : Bool) → some (λ (r : ℕ). clash key same (f r) (f (r + 1))) (n - 1) ≡ b → pair_in (clash key same) (list_of n f) ≡ b
          go true e = let w = some_at (λ (r : ℕ). clash key same (f r) (f (r + 1))) (n - 1) e in pair-yes f n (clash key same) w.0 (w.0 + 1) (omega arith) (omega (arith, w.1)) w.2
          go false e = none (λ r l. some-fails (λ (r : ℕ). clash key same (f r) (f (r + 1))) (n - 1) e r (omega arith))

    -- the same of a list in any order, by its places in the order of the key
    pub sorted-neighbours : (g : ℕ → A) (n : ℕ) → n ≤ packed_places
        → pair_in (clash key same) (list_of n g) ≡ some (λ (r : ℕ). clash key same (g (placed (λ (i : ℕ). key (g i)) n r)) (g (placed (λ (i : ℕ). key (g i)) n (r + 1)))) (n - 1)
    sorted-neighbours g n few =
        pair-order (clash key same) either_way (sort-perm (λ (a b : A). ltb (key a) (key b)) (list_of n g)) ∙ rw (things-in-order key g n few)
        (neighbours (λ (r : ℕ). g (placed key_at n r)) n (λ i j ij jn. order i j (eq-or-lt_of_le ij) jn))
      where
        key_at : ℕ → ℕ
        key_at i = key (g i)

        either_way : (p q : A) → clash key same p q ≡ clash key same q p
        either_way p q = rw (eqb_swap (key p) (key q), alike.back p q)

        order : (i j : ℕ) → (i ≡ j) ⊎ (i < j) → j < n → key (g (placed key_at n i)) ≤ key (g (placed key_at n j))
        order i j (inl e) jn = rw e (omega arith)
        order i j (inr l) jn = omega (arith, placed-key key_at n few i (omega arith), placed-key key_at n few j jn, placed-rises key_at n few i j l jn)
