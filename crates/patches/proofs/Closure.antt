-- The closure that computes is reachability: `via` at n tells of two ranks below n whether the one reaches the other. Over any test of
-- survival and any test of a link that joins survivors only. Assumes nothing.
use mathlib.Core.Path.{◌≡◌, refl, sym, ◌∙◌, subst}
use mathlib.Core.Bool.{Bool, true, false, ◌&&◌, ◌||◌, true≢false}
use mathlib.Core.Logic.{◌⊎◌, inl, inr}
use mathlib.Core.List.{[]}
use Prim.Native.Nat.{ℕ, zero, suc, ◌≤◌, ◌<◌}
use native.Mathlib.Decide.{dec_lt}
use native.Mathlib.Nat.{eq-or-lt_of_le}
use native.Mathlib.Omega.{arith}
use borrow.Author.Tests.{eq-eqb, eqb-true}
use lib.Dec.{eqb}
use Rattle.folds.specs.Below.{first}
use Rattle.folds.proofs.Below.{first-hit, first-miss, first_holds, first-before}
use Rattle.folds.specs.Lists.{list_of}
use Rattle.folds.proofs.Lists.{list_at}
use Rattle.patches.specs.Patches.{test, test_table, via}
use Rattle.patches.specs.Reach.{Reach, here, step, Labelled}
use Rattle.std.proofs.lemmas.Bool.{and_from, and_parts, false_from_ne_true, or_cases, or_left, or_right}

pub reach-trans : {alive : ℕ → Bool} {link : ℕ → ℕ → Bool} {a b c : ℕ} → Reach alive link a b → Reach alive link b c → Reach alive link a c
reach-trans r (here e) = r
reach-trans r (step q e) = step (reach-trans r q) e

test-table : (n : ℕ) (f : ℕ → ℕ → Bool) (a b : ℕ) → a < n → b < n → test (test_table n f) a b ≡ f a b
unfolding test_table
test-table n f a b h g = rw (list_at n (λ (i : ℕ). list_of n (f i)) a [] h) (list_at n (f a) b false g)

module _ (n : ℕ) (alive : ℕ → Bool) (link : ℕ → ℕ → Bool) where
  -- by way of ranks below i
  abbrev by : ℕ → ℕ → ℕ → Bool
  by i a b = test (via n alive link i) a b

  by-none : (a b : ℕ) → a < n → b < n → by 0 a b ≡ (eqb a b && alive a) || link a b
  unfolding via
  by-none a b h g = test-table n (λ (a b : ℕ). (eqb a b && alive a) || link a b) a b h g

  by-more : (i a b : ℕ) → a < n → b < n → by (suc i) a b ≡ by i a b || (by i a i && by i i b)
  unfolding via
  by-more i a b h g = test-table n (λ (a b : ℕ). by i a b || (by i a i && by i i b)) a b h g

  module _ (i a b : ℕ) (h : a < n) (g : b < n) where
    by-up : by i a b ≡ true → by (suc i) a b ≡ true
    by-up e = by-more i a b h g ∙ or_left (by i a b) (by i a i && by i i b) e

    by-at : by i a i ≡ true → by i i b ≡ true → by (suc i) a b ≡ true
    by-at p q = by-more i a b h g ∙ or_right (by i a b) (by i a i && by i i b) (and_from (by i a i) (by i i b) p q)

    by_cases : by (suc i) a b ≡ true → (by i a b ≡ true) ⊎ ((by i a i ≡ true) × (by i i b ≡ true))
    by_cases e = elim (or_cases (by i a b) (by i a i && by i i b) (sym (by-more i a b h g) ∙ e)) [
      | inl p ↦ inl p
      | inr p ↦ inr ((and_parts (by i a i) (by i i b) p).0, (and_parts (by i a i) (by i i b) p).1)
    ]

  by-start : (i a b : ℕ) → a < n → b < n → (eqb a b && alive a) || link a b ≡ true → by i a b ≡ true
  by-start zero a b h g e = by-none a b h g ∙ e
  by-start (suc i) a b h g e = by-up i a b h g (by-start i a b h g e)

  -- by way of v and of ranks below i is by way of ranks below i, where v is one of them
  by-through : (i a v b : ℕ) → i ≤ n → a < n → b < n → v < i → by i a v ≡ true → by i v b ≡ true → by i a b ≡ true
  by-through zero a v b k h g l p q = absurd (omega arith)
  by-through (suc i) a v b k h g l p q =
      split (eq-or-lt_of_le (omega arith)) (λ m. four (λ x y f d. by-through i x v y (omega arith) f d m) (by_cases i a v h (omega arith) p) (by_cases i v b (omega arith) g q))
    where
      four : ((x y : ℕ) → x < n → y < n → by i x v ≡ true → by i v y ≡ true → by i x y ≡ true)
          → (by i a v ≡ true) ⊎ ((by i a i ≡ true) × (by i i v ≡ true)) → (by i v b ≡ true) ⊎ ((by i v i ≡ true) × (by i i b ≡ true)) → by (suc i) a b ≡ true
      four on (inl x) (inl y) = by-up i a b h g (on a b h g x y)
      four on (inl x) (inr y) = by-at i a b h g (on a i h (omega arith) x y.0) y.1
      four on (inr x) (inl y) = by-at i a b h g x.0 (on i b (omega arith) g x.1 y)
      four on (inr x) (inr y) = by-at i a b h g x.0 y.1

      to-i : by (suc i) a i ≡ true → by i a i ≡ true
      to-i e = elim (by_cases i a i h (omega arith) e) [ inl p ↦ p | inr p ↦ p.0 ]

      from-i : by (suc i) i b ≡ true → by i i b ≡ true
      from-i e = elim (by_cases i i b (omega arith) g e) [ inl p ↦ p | inr p ↦ p.1 ]

      split : (v ≡ i) ⊎ (v < i) → (v < i → by (suc i) a b ≡ true) → by (suc i) a b ≡ true
      split (inl e) r = by-at i a b h g (to-i (rw e at p)) (from-i (rw e at q))
      split (inr m) r = r m

  -- a link joins two survivors, and a survivor is a rank below n
  pub record Joins : Type 0 where
    pub from : (a b : ℕ) → link a b ≡ true → alive a ≡ true
    pub to : (a b : ℕ) → link a b ≡ true → alive b ≡ true
    pub rank : (k : ℕ) → alive k ≡ true → k < n

  module _ (j : Joins) where
    pub reach-from : {a b : ℕ} → Reach alive link a b → alive a ≡ true
    reach-from (here e) = e
    reach-from (step r e) = reach-from r

    pub reach-to : {a b : ℕ} → Reach alive link a b → alive b ≡ true
    reach-to (here e) = e
    reach-to {b = b} (step r e) = j.to _ b e

    by-sound : (i a b : ℕ) → i ≤ n → a < n → b < n → by i a b ≡ true → Reach alive link a b
    by-sound zero a b k h g e = elim (or_cases (eqb a b && alive a) (link a b) (sym (by-none a b h g) ∙ e)) [
      | inl p ↦ subst (Reach alive link a) (eqb-true a b (and_parts (eqb a b) (alive a) p).0) (here (and_parts (eqb a b) (alive a) p).1)
      | inr p ↦ step (here (j.from a b p)) p
    ]
    by-sound (suc i) a b k h g e = elim (by_cases i a b h g e) [
      | inl p ↦ by-sound i a b (omega arith) h g p
      | inr p ↦ reach-trans (by-sound i a i (omega arith) h (omega arith) p.0) (by-sound i i b (omega arith) (omega arith) g p.1)
    ]

    by-complete : {a b : ℕ} → Reach alive link a b → by n a b ≡ true
    by-complete {a} (here e) = let h = j.rank a e in by-start n a a h h (or_left (eqb a a && alive a) (link a a) (and_from (eqb a a) (alive a) (eq-eqb a a refl) e))
    by-complete {a} {b = c} (step {b} r e) =
        let h = j.rank a (reach-from r) in
        let m = j.rank b (j.from b c e) in
        let g = j.rank c (j.to b c e) in
        by-through n a b c (omega arith) h g m (by-complete r) (by-start n b c m g (or_right (eqb b c && alive b) (link b c) e))

    -- the theorem
    pub via-reach : (a b : ℕ) → a < n → b < n → (test (via n alive link n) a b ≡ true → Reach alive link a b) × (Reach alive link a b → test (via n alive link n) a b ≡ true)
    via-reach a b h g = (by-sound n a b (omega arith) h g, by-complete)

    -- the label by definition
    pub first-label : (k v : ℕ) → Labelled alive link k v → first (λ (a : ℕ). test (via n alive link n) a k) 0 n ≡ v
    first-label k v l =
        let g = j.rank k (reach-to l.reached) in
        let h = j.rank v (reach-from l.reached) in
        first-hit (λ (a : ℕ). by n a k) n v h (by-complete l.reached) (λ a b. false_from_ne_true (by n a k) (λ e. omega (arith, b, l.least a (by-sound n a k (omega arith) (omega arith) g e))))

    pub first-none : (k : ℕ) → k < n → (alive k ≡ true → ⊥) → first (λ (a : ℕ). test (via n alive link n) a k) 0 n ≡ n
    first-none k g f = first-miss (λ (a : ℕ). by n a k) n (λ a h. false_from_ne_true (by n a k) (λ e. f (reach-to (by-sound n a k (omega arith) h g e))))

    -- the definition's label is the least rank from which k is reached
    pub first-labelled : (k : ℕ) → alive k ≡ true → Labelled alive link k (first (λ (a : ℕ). test (via n alive link n) a k) 0 n)
    first-labelled k e = record {
      reached = by-sound n v k (omega arith) (low k (here e)).1 (j.rank k e) (first_holds (λ (a : ℕ). by n a k) 0 n (low k (here e)).1);
      least = λ a r. (low a r).0;
    }
      where
        v : ℕ
        v = first (λ (a : ℕ). by n a k) 0 n

        low : (a : ℕ) → Reach alive link a k → (v ≤ a) × (v < n)
        low a r =
            let h = j.rank a (reach-from r) in
            elim (dec_lt a v) [
              | yes l ↦ absurd (true≢false (sym (by-complete r) ∙ first-before (λ (a : ℕ). by n a k) 0 n a (omega arith) l))
              | no f ↦ (omega (arith, f), omega (arith, f, h))
            ]
