-- How many different numbers there are: as many as there are last ones, and, of numbers that are all different, as many as there are numbers.
-- Assumes nothing.
use mathlib.Core.Path.{◌≡◌, refl, sym, ap, ◌∙◌}
use mathlib.Core.Bool.{Bool, true, false, cond, not, ◌&&◌, true≢false}
use Prim.Native.Nat.{ℕ, zero, suc, ◌+◌, ◌<◌}
use native.Mathlib.Nat.{lt-suc_self, le_step}
use native.Mathlib.Omega.{arith}
use lib.Dec.{eqb}
use borrow.Author.Tests.{eqb-true, eq-eqb, ne_eqb}
use Rattle.folds.specs.Below.{some, tally, last}
use Rattle.folds.proofs.Below.{some_at, some-yes, some-fails, tally-ext, last-holds}
use Rattle.folds.proofs.Counting.{tally-no}
use Rattle.promises.specs.Tally.{different}
use Rattle.std.proofs.Math.Bool.{and-false, and-true, and_assoc}
use Rattle.std.proofs.lemmas.Bool.{and_from, and_parts, false_from_ne_true}

-- ---- counting

-- those that pass a test and those that fail it
tally-split : (p t : ℕ → Bool) (n : ℕ) → tally p n ≡ tally (λ (k : ℕ). p k && not (t k)) n + tally (λ (k : ℕ). p k && t k) n
unfolding tally
tally-split p t zero = refl
tally-split p t (suc n) = go (p n) (t n) (tally-split p t n)
  where
    a : ℕ
    a = tally (λ (k : ℕ). p k && not (t k)) n

    b : ℕ
    b = tally (λ (k : ℕ). p k && t k) n

    go : (x y : Bool) → tally p n ≡ a + b → cond x (tally p n + 1) (tally p n) ≡ cond (x && not y) (a + 1) a + cond (x && y) (b + 1) b
    go true true e = omega arith
    go true false e = omega arith
    go false y e = e

-- one alone passes
tally-single : (p : ℕ → Bool) (n m : ℕ) → m < n → p m ≡ true → ((k : ℕ) → k < n → p k ≡ true → k ≡ m) → tally p n ≡ 1
unfolding tally
tally-single p zero m h e one = absurd (omega arith)
tally-single p (suc n) m h e one = go (p n) refl (λ l. tally-single p n m l e (λ k a r. one k (le_step a) r))
  where
    go : (b : Bool) → p n ≡ b → (m < n → tally p n ≡ 1) → cond b (tally p n + 1) (tally p n) ≡ 1
    go true q again = rw (tally-no p n (λ k l. false_from_ne_true (p k) (λ r. omega (arith, one k (le_step l) r, one n (lt-suc_self n) q))))
    go false q again = let other : m ≡ n → ⊥ = λ a. true≢false (sym e ∙ ap p a ∙ q) in again (omega (arith, other))

-- ---- the last of each number

module _ (f : ℕ → ℕ) where
  -- k is the last below n with its number
  abbrev pub is_last : ℕ → ℕ → Bool
  is_last n k = eqb (last (λ (j : ℕ). eqb (f j) (f k)) 0 n) k

  last-itself : (n : ℕ) → is_last (suc n) n ≡ true
  unfolding last
  last-itself n = rw (eq-eqb (f n) (f n) refl) (eq-eqb n n refl)

  last_turn : (n k : ℕ) → k < n → is_last (suc n) k ≡ is_last n k && not (eqb (f n) (f k))
  unfolding last
  last_turn n k h = go (eqb (f n) (f k))
    where
      go : (b : Bool) → eqb (cond b n (last (λ (j : ℕ). eqb (f j) (f k)) 0 n)) k ≡ is_last n k && not b
      go true = ne_eqb n k (λ e. omega arith) ∙ sym (and-false (is_last n k))
      go false = sym (and-true (is_last n k))

  module _ (q : ℕ → Bool) where
    -- of the last ones below n that pass, those whose number is that of n
    abbrev of_next : ℕ → ℕ → Bool
    of_next n k = (q k && is_last n k) && eqb (f n) (f k)

    abbrev of_others : ℕ → ℕ → Bool
    of_others n k = (q k && is_last n k) && not (eqb (f n) (f k))

    module _ (n : ℕ) (alike : (j k : ℕ) → j < suc n → k < suc n → f j ≡ f k → q j ≡ q k) where
      next-passes : (k : ℕ) → k < n → of_next n k ≡ true → (q k ≡ true) × (f n ≡ f k) × (q n ≡ true)
      next-passes k l e =
          let a = (and_parts (q k && is_last n k) (eqb (f n) (f k)) e).0 in
          let b = eqb-true (f n) (f k) (and_parts (q k && is_last n k) (eqb (f n) (f k)) e).1 in
          let c = (and_parts (q k) (is_last n k) a).0 in
          (c, b, alike n k (lt-suc_self n) (le_step l) b ∙ c)

      none-without : q n ≡ false → tally (of_next n) n ≡ 0
      none-without e = tally-no (of_next n) n (λ k l. false_from_ne_true (of_next n k) (λ r. true≢false (sym (next-passes k l r).2 ∙ e)))

      none-earlier : some (λ (j : ℕ). q j && eqb (f j) (f n)) n ≡ false → tally (of_next n) n ≡ 0
      none-earlier e =
          tally-no (of_next n) n
          (λ k l. false_from_ne_true (of_next n k)
          (λ r. let g = next-passes k l r in true≢false (sym (and_from (q k) (eqb (f k) (f n)) g.0 (eq-eqb (f k) (f n) (sym g.1))) ∙ some-fails (λ (j : ℕ). q j && eqb (f j) (f n)) n e k l)))

      one_earlier : q n ≡ true → some (λ (j : ℕ). q j && eqb (f j) (f n)) n ≡ true → tally (of_next n) n ≡ 1
      one_earlier e s =
          let p : ℕ → Bool = λ j. eqb (f j) (f n) in
          let w = some_at (λ (j : ℕ). q j && p j) n s in
          let g = last-holds p 0 n (some-yes p n w.0 w.1 (and_parts (q w.0) (p w.0) w.2).1) in
          let m = last p 0 n in
          let same : f m ≡ f n = eqb-true (f m) (f n) g.1 in
          let stands : is_last n m ≡ true = ap (λ (x : ℕ). eqb (last (λ (j : ℕ). eqb (f j) x) 0 n) m) same ∙ eq-eqb m m refl in
          let passes : q m ≡ true = alike m n (le_step g.0) (lt-suc_self n) same ∙ e in
          tally-single (of_next n) n m g.0 (and_from (q m && is_last n m) (eqb (f n) (f m)) (and_from (q m) (is_last n m) passes stands) (eq-eqb (f n) (f m) (sym same)))
          (λ k l r. let h = next-passes k l r in
          let it = eqb-true (last (λ (j : ℕ). eqb (f j) (f k)) 0 n) k (and_parts (q k) (is_last n k) (and_parts (q k && is_last n k) (eqb (f n) (f k)) r).0).1 in
          sym it ∙ ap (λ (x : ℕ). last (λ (j : ℕ). eqb (f j) x) 0 n) (sym h.1))

    -- if numbers that are alike pass alike, as many last ones pass as there are different numbers
    pub last-different : (n : ℕ) → ((j k : ℕ) → j < n → k < n → f j ≡ f k → q j ≡ q k) → tally (λ (k : ℕ). q k && is_last n k) n ≡ different q f n
    unfolding different tally
    last-different zero alike = refl
    last-different (suc n) alike =
        rw (last-itself n, turn) (go (last-different n (λ j k a b. alike j k (le_step a) (le_step b))) (q n) refl (some (λ (j : ℕ). q j && eqb (f j) (f n)) n) refl)
      where
        split : tally (λ (k : ℕ). q k && is_last n k) n ≡ tally (of_others n) n + tally (of_next n) n
        split = tally-split (λ (k : ℕ). q k && is_last n k) (λ (k : ℕ). eqb (f n) (f k)) n

        turn : tally (λ (k : ℕ). q k && is_last (suc n) k) n ≡ tally (of_others n) n
        turn = tally-ext (λ (k : ℕ). q k && is_last (suc n) k) (of_others n) n (λ k l. ap (λ (b : Bool). q k && b) (last_turn n k l) ∙ sym (and_assoc (q k) (is_last n k) (not (eqb (f n) (f k)))))

        go : tally (λ (k : ℕ). q k && is_last n k) n ≡ different q f n → (a : Bool) → q n ≡ a → (b : Bool) → some (λ (j : ℕ). q j && eqb (f j) (f n)) n ≡ b
            → cond (a && true) (tally (of_others n) n + 1) (tally (of_others n) n) ≡ cond (a && not b) (different q f n + 1) (different q f n)
        go before false e b s = omega (arith, before, split, none-without n alike e)
        go before true e false s = omega (arith, before, split, none-earlier n alike s)
        go before true e true s = omega (arith, before, split, one_earlier n alike e s)
