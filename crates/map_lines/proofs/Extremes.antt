-- The smallest and the largest of whole numbers: no number lies beyond, and both are among the numbers; every number from the one to the
-- other lies in range where the numbers do. Assumes nothing.
use mathlib.Core.Path.{◌≡◌, refl, sym, ap, ◌∙◌}
use mathlib.Core.Bool.{Bool, true, false, cond, true≢false}
use Prim.{yes, no}
use Prim.Native.Nat.{ℕ, suc, ◌+◌, ◌-◌, ◌≤◌, ◌<◌}
use native.Mathlib.Decide.{ℕ_discrete}
use native.Mathlib.Omega.{arith}
use borrow.Author.Tests.{le-ltb, ltb-true, ltb-false, leb-true, le-leb, eq-eqb, ne_eqb}
use lib.Dec.{ltb, leb}
use lib.IntN.{ℤ, pos, negsuc, sub_ℕ, nat_abs, ◌+ℤ◌, ◌-ℤ◌}
use lib.Signed.{lt_z}
use Rattle.folds.specs.Below.{fold}
use Rattle.folds.proofs.Below.{fold-keeps}
use Rattle.cells.specs.Cell.{within}
use Rattle.map_lines.specs.Map.{smallest, largest, span}
use Rattle.map_lines.proofs.Whole.{distance}
use Rattle.std.proofs.lemmas.Bool.{and_from, and_parts}
use Rattle.cells.proofs.Edges.{not-below-itself}

-- ---- the order of whole numbers

not-both : (a b : ℤ) → lt_z a b ≡ true → lt_z b a ≡ false
not-both (pos a) (pos b) e = le-ltb b a (omega (arith, ltb-true a b e))
not-both (pos a) (negsuc b) e = absurd (true≢false (sym e))
not-both (negsuc a) (pos b) e = refl
not-both (negsuc a) (negsuc b) e = le-ltb a b (omega (arith, ltb-true b a e))

not-below-then : (a b c : ℤ) → lt_z a b ≡ false → lt_z b c ≡ false → lt_z a c ≡ false
not-below-then (pos a) (pos b) (pos c) e f = le-ltb a c (omega (arith, ltb-false a b e, ltb-false b c f))
not-below-then (pos a) b (negsuc c) e f = refl
not-below-then (pos a) (negsuc b) (pos c) e f = absurd (true≢false f)
not-below-then (negsuc a) (pos b) c e f = absurd (true≢false e)
not-below-then (negsuc a) (negsuc b) (pos c) e f = absurd (true≢false f)
not-below-then (negsuc a) (negsuc b) (negsuc c) e f = le-ltb c a (omega (arith, ltb-false b a e, ltb-false c b f))

-- ---- an order, and the one of n numbers that none is before

module _ (less : ℤ → ℤ → Bool) (itself : (a : ℤ) → less a a ≡ false) (one_way : (a b : ℤ) → less a b ≡ true → less b a ≡ false)
    (then : (a b c : ℤ) → less a b ≡ false → less b c ≡ false → less a c ≡ false) (z : ℕ → ℤ) where
  -- a is one of the first k numbers (of the first, where k is 0), and none of them is before it
  record Foremost (k : ℕ) (a : ℤ) : Type 0 where
    pub none_before : (j : ℕ) → j < k → less (z j) a ≡ false
    pub at : ℕ
    pub early : at ≤ k - 1
    pub is : a ≡ z at

  abbrev step : ℕ → ℤ → ℤ
  step k a = cond (less (z k) a) (z k) a

  one-more : (k : ℕ) (a : ℤ) → Foremost k a → Foremost (k + 1) (step k a)
  one-more k a h = go (less (z k) a) refl
    where
      go : (b : Bool) → less (z k) a ≡ b → Foremost (k + 1) (cond b (z k) a)
      go true e = record {
        none_before = λ j l. elim (ℕ_discrete j k) [
          | yes d ↦ rw d (itself (z k))
          | no f ↦ then (z j) a (z k) (h.none_before j (omega (arith, f))) (one_way (z k) a e)
        ];
        at = k;
        early = omega arith;
        is = refl;
      }
      go false e = record {
        none_before = λ j l. elim (ℕ_discrete j k) [
          | yes d ↦ rw d e
          | no f ↦ h.none_before j (omega (arith, f))
        ];
        at = h.at;
        early = omega (arith, h.early);
        is = h.is;
      }

  foremost : (n : ℕ) → Foremost n (fold step (z 0) n)
  foremost n = fold-keeps Foremost step (z 0) n (record { none_before = λ j l. absurd (omega arith); at = 0; early = omega arith; is = refl }) (λ k l b h. one-more k b h)

module _ (z : ℕ → ℤ) (n : ℕ) where
  smallest-first : Foremost lt_z not-below-itself not-both not-below-then z n (smallest z n)
  unfolding smallest
  smallest-first = foremost lt_z not-below-itself not-both not-below-then z n

  abbrev above : ℤ → ℤ → Bool
  above a b = lt_z b a

  largest-first : Foremost above not-below-itself (λ a b. not-both b a) (λ a b c e f. not-below-then c b a f e) z n (largest z n)
  unfolding largest
  largest-first = foremost above not-below-itself (λ a b. not-both b a) (λ a b c e f. not-below-then c b a f e) z n

  -- no number is below the smallest, and none above the largest
  pub none_below : (k : ℕ) → k < n → lt_z (z k) (smallest z n) ≡ false
  none_below = smallest-first.none_before

  pub none_above : (k : ℕ) → k < n → lt_z (largest z n) (z k) ≡ false
  none_above = largest-first.none_before

  -- both are among the numbers
  pub smallest-among : 0 < n → (k : ℕ) × (k < n) × (smallest z n ≡ z k)
  smallest-among h = (smallest-first.at, omega (arith, smallest-first.early), smallest-first.is)

  pub largest-among : 0 < n → (k : ℕ) × (k < n) × (largest z n ≡ z k)
  largest-among h = (largest-first.at, omega (arith, largest-first.early), largest-first.is)

-- ---- from the smallest to the largest

between : (a b : ℤ) (i : ℕ) → within a ≡ true → within b ≡ true → lt_z b a ≡ false → i ≤ nat_abs (b -ℤ a) → within (a +ℤ pos i) ≡ true
between (pos a) (pos b) i p q e h = le-leb (a + i) 8000 (omega (arith, leb-true b 8000 q, ltb-false b a e, distance b a (ltb-false b a e)))
between (pos a) (negsuc b) i p q e h = absurd (true≢false e)
between (negsuc a) (pos b) i p q e h = go (ltb i (suc a)) refl
  where
    go : (t : Bool) → ltb i (suc a) ≡ t → within (cond t (negsuc (suc a - suc i)) (pos (i - suc a))) ≡ true
    go true f = and_from (leb (suc a - suc i) 7999) true (le-leb (suc a - suc i) 7999 (omega (arith, leb-true a 7999 (and_parts (leb a 7999) true p).0))) refl
    go false f = le-leb (i - suc a) 8000 (omega (arith, leb-true b 8000 q))
between (negsuc a) (negsuc b) i p q e h = go (ltb i (suc a)) refl
  where
    far : nat_abs (sub_ℕ (suc a) (suc b)) ≡ a - b
    far = rw (le-ltb (suc a) (suc b) (omega (arith, ltb-false a b e))) (omega arith)

    go : (t : Bool) → ltb i (suc a) ≡ t → within (cond t (negsuc (suc a - suc i)) (pos (i - suc a))) ≡ true
    go true f = and_from (leb (suc a - suc i) 7999) true (le-leb (suc a - suc i) 7999 (omega (arith, leb-true a 7999 (and_parts (leb a 7999) true p).0))) refl
    go false f = le-leb (i - suc a) 8000 (omega (arith, ltb-false i (suc a) f, far))

module _ (z : ℕ → ℤ) (n : ℕ) where
  pub span_none : n ≡ 0 → span z n ≡ 0
  unfolding span
  span_none e = rw (eq-eqb n 0 e)

  pub span-some : (n ≡ 0 → ⊥) → span z n ≡ nat_abs (largest z n -ℤ smallest z n) + 1
  unfolding span
  span-some f = rw (ne_eqb n 0 f)

  -- each number from the smallest to the largest
  pub line-within : ((k : ℕ) → k < n → within (z k) ≡ true) → (i : ℕ) → i < span z n → within (smallest z n +ℤ pos i) ≡ true
  line-within h i l =
      elim (ℕ_discrete n 0) [
        | yes e ↦ absurd (omega (arith, span_none e))
        | no f ↦ some f
      ]
    where
      some : (n ≡ 0 → ⊥) → within (smallest z n +ℤ pos i) ≡ true
      some f =
          let s = smallest-among z n (omega (arith, f)) in
          let t = largest-among z n (omega (arith, f)) in
          between (smallest z n) (largest z n) i (ap within s.2 ∙ h s.0 s.1) (ap within t.2 ∙ h t.0 t.1)
          (ap (λ (x : ℤ). lt_z (largest z n) x) s.2 ∙ none_above z n s.0 s.1) (omega (arith, span-some f))
