-- What is smallest, largest and spanned: each number lies between, both ends are met, and a move moves the ends along. Assumes nothing.
use Rattle.std.proofs.Common.{min, max}
use mathlib.Core.Path.{◌≡◌, refl, sym, ap, ◌∙◌}
use mathlib.Core.Bool.{Bool, true, false, cond}
use Prim.Native.Nat.{ℕ, ◌+◌, ◌-◌, ◌≤◌, ◌<◌}
use native.Mathlib.Decide.{dec_lt}
use native.Mathlib.Omega.{arith}
use borrow.Author.Tests.{ltb-true, ltb-false}
use lib.Dec.{eqb, ltb}
use lib.IntN.{ℤ, pos, nat_abs, ◌+ℤ◌, ◌-ℤ◌}
use lib.Signed.{lt_z}
use Rattle.folds.specs.Below.{fold}
use Rattle.folds.proofs.Below.{fold-none, fold_more, fold-ext, fold-keeps}
use Rattle.map_lines.specs.Map.{smallest, largest, span}
use Rattle.map_lines.proofs.Whole.{difference-moved, less-moved, distance}

-- a function that goes through every step goes through the fold
through : {A B : Type 0} (g : A → B) (s : ℕ → A → A) (t : ℕ → B → B) (a : A) (n : ℕ) → ((k : ℕ) → k < n → (b : A) → g (s k b) ≡ t k (g b)) → g (fold s a n) ≡ fold t (g a) n
through g s t a n f = fold-keeps (λ k b. g b ≡ fold t (g a) k) s a n (sym (fold-none t (g a))) (λ k l b e. f k l b ∙ ap (t k) e ∙ sym (fold_more t (g a) k))

-- ---- a move

choice-moved : (c x y : ℤ) (t : Bool) → cond t x y +ℤ c ≡ cond t (x +ℤ c) (y +ℤ c)
choice-moved c x y true = refl
choice-moved c x y false = refl

module _ (z w : ℕ → ℤ) (c : ℤ) (n : ℕ) (first : w 0 ≡ z 0 +ℤ c) (at : (k : ℕ) → k < n → w k ≡ z k +ℤ c) where
  pub smallest-moved : smallest w n ≡ smallest z n +ℤ c
  unfolding smallest
  smallest-moved =
      rw first
      (fold-ext (λ k a. cond (lt_z (w k) a) (w k) a) (λ k a. cond (lt_z (z k +ℤ c) a) (z k +ℤ c) a) (z 0 +ℤ c) n (λ k l b. rw (at k l))
      ∙ sym (through (λ (x : ℤ). x +ℤ c) (λ k a. cond (lt_z (z k) a) (z k) a) (λ k a. cond (lt_z (z k +ℤ c) a) (z k +ℤ c) a) (z 0) n
      (λ k l b. choice-moved c (z k) b (lt_z (z k) b) ∙ rw (less-moved (z k) b c))))

  largest-moved : largest w n ≡ largest z n +ℤ c
  unfolding largest
  largest-moved =
      rw first
      (fold-ext (λ k a. cond (lt_z a (w k)) (w k) a) (λ k a. cond (lt_z a (z k +ℤ c)) (z k +ℤ c) a) (z 0 +ℤ c) n (λ k l b. rw (at k l))
      ∙ sym (through (λ (x : ℤ). x +ℤ c) (λ k a. cond (lt_z a (z k)) (z k) a) (λ k a. cond (lt_z a (z k +ℤ c)) (z k +ℤ c) a) (z 0) n
      (λ k l b. choice-moved c (z k) b (lt_z b (z k)) ∙ rw (less-moved b (z k) c))))

  pub span-moved : span w n ≡ span z n
  unfolding span
  span-moved =
      ap (λ (d : ℤ). cond (eqb n 0) 0 (nat_abs d + 1))
      (ap (λ (x : ℤ). x -ℤ smallest w n) largest-moved ∙ ap (λ (x : ℤ). (largest z n +ℤ c) -ℤ x) smallest-moved ∙ difference-moved (largest z n) (smallest z n) c)

-- ---- of numbers from 0 on

abbrev pub least : (ℕ → ℕ) → ℕ → ℕ
least p n = fold (λ k a. cond (ltb (p k) a) (p k) a) (p 0) n

abbrev pub most : (ℕ → ℕ) → ℕ → ℕ
most p n = fold (λ k a. cond (ltb a (p k)) (p k) a) (p 0) n

module _ (p : ℕ → ℕ) (n : ℕ) where
  abbrev wholes : ℕ → ℤ
  wholes k = pos (p k)

  choice-pos : (x y : ℕ) (t : Bool) → pos (cond t x y) ≡ cond t (pos x) (pos y)
  choice-pos x y true = refl
  choice-pos x y false = refl

  smallest-is : smallest wholes n ≡ pos (least p n)
  unfolding smallest
  smallest-is = sym (through pos (λ k a. cond (ltb (p k) a) (p k) a) (λ k a. cond (lt_z (wholes k) a) (wholes k) a) (p 0) n (λ k l b. choice-pos (p k) b (ltb (p k) b)))

  largest-is : largest wholes n ≡ pos (most p n)
  unfolding largest
  largest-is = sym (through pos (λ k a. cond (ltb a (p k)) (p k) a) (λ k a. cond (lt_z a (wholes k)) (wholes k) a) (p 0) n (λ k l b. choice-pos (p k) b (ltb b (p k))))

-- a is the least and b the most of the first k of p, or p 0
pub record Ends (p : ℕ → ℕ) (k a b : ℕ) : Type 0 where
  pub least-is : a ≡ least p k
  pub most-is : b ≡ most p k
  pub ordered : a ≤ b
  pub inside : (j : ℕ) → j < k → (a ≤ p j) × (p j ≤ b)

pub ends-start : (p : ℕ → ℕ) → Ends p 0 (p 0) (p 0)
ends-start p =
    record {
      least-is = sym (fold-none (λ k a. cond (ltb (p k) a) (p k) a) (p 0));
      most-is = sym (fold-none (λ k a. cond (ltb a (p k)) (p k) a) (p 0));
      ordered = omega arith;
      inside = λ j h. absurd (omega arith);
    }

lower-is : (a c : ℕ) → min a c ≡ cond (ltb c a) c a
lower-is a c = go (ltb c a) refl
  where
    go : (t : Bool) → ltb c a ≡ t → min a c ≡ cond t c a
    go true e = omega (arith, ltb-true c a e)
    go false e = omega (arith, ltb-false c a e)

higher-is : (b c : ℕ) → max b c ≡ cond (ltb b c) c b
higher-is b c = go (ltb b c) refl
  where
    go : (t : Bool) → ltb b c ≡ t → max b c ≡ cond t c b
    go true e = omega (arith, ltb-true b c e)
    go false e = omega (arith, ltb-false b c e)

pub ends_more : (p : ℕ → ℕ) (k a b : ℕ) → Ends p k a b → Ends p (k + 1) (min a (p k)) (max b (p k))
ends_more p k a b h =
    record {
      least-is = lower-is a (p k) ∙ ap (λ (x : ℕ). cond (ltb (p k) x) (p k) x) h.least-is ∙ sym (fold_more (λ k a. cond (ltb (p k) a) (p k) a) (p 0) k);
      most-is = higher-is b (p k) ∙ ap (λ (x : ℕ). cond (ltb x (p k)) (p k) x) h.most-is ∙ sym (fold_more (λ k a. cond (ltb a (p k)) (p k) a) (p 0) k);
      ordered = omega (arith, h.ordered);
      inside = λ j g. elim (dec_lt j k) [
        | yes i ↦ (omega (arith, (h.inside j i).0), omega (arith, (h.inside j i).1))
        | no i ↦ (let e : j ≡ k = omega arith in rw e (omega arith, omega arith))
      ];
    }

-- with the bias taken off each number
module _ (p : ℕ → ℕ) (n a b : ℕ) (h : Ends p n a b) (c : ℤ) where
  pub smallest-end : smallest (λ (k : ℕ). pos (p k) +ℤ c) n ≡ pos a +ℤ c
  smallest-end = smallest-moved (λ (k : ℕ). pos (p k)) (λ (k : ℕ). pos (p k) +ℤ c) c n refl (λ k l. refl) ∙ ap (λ (x : ℤ). x +ℤ c) (smallest-is p n ∙ ap pos (sym h.least-is))

  pub span-ends : span (λ (k : ℕ). pos (p k) +ℤ c) n ≡ cond (eqb n 0) 0 (b - a + 1)
  unfolding span
  span-ends =
      span-moved (λ (k : ℕ). pos (p k)) (λ (k : ℕ). pos (p k) +ℤ c) c n refl (λ k l. refl)
      ∙ ap (λ (d : ℕ). cond (eqb n 0) 0 (d + 1)) (rw (smallest-is p n, largest-is p n, ← h.least-is, ← h.most-is) (distance b a h.ordered))
