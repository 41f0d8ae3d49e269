-- Laws on tests, and on the words for the numbers below n: each has one law for one turn more of a loop (`..-more`) and one for two tests
-- that agree (`..-ext`). Assumes nothing.
use mathlib.Core.Path.{◌≡◌, refl, sym, ap, ◌∙◌, subst}
use mathlib.Core.Bool.{Bool, true, false, cond, not, ◌||◌, ◌&&◌, false≢true, true≢false}
use mathlib.Core.Logic.{◌⊎◌, ⊎_elim}
use Prim.Native.Nat.{ℕ, zero, suc, ◌+◌, ◌-◌, ◌≤◌, ◌<◌}
use native.Mathlib.Decide.{dec_le, ℕ_discrete}
use native.Mathlib.Nat.{lt-suc_self, le_step, eq-or-lt_of_le}
use native.Mathlib.Numerals.{add-one}
use native.Mathlib.Omega.{arith}
use lib.Dec.{eqb, ltb}
use lib.Ieee.{Float}
use borrow.Author.Tests.{eq-eqb, ne_eqb, lt-ltb, ltb-true}
use Rattle.folds.specs.Arith.{◌⊕◌}
use Rattle.folds.specs.Below.{fold, turn, some, every, tally, sum_of, first_in, first, last}
use Rattle.std.proofs.lemmas.Bool.{and_parts, false_from_ne_true}
use Rattle.std.specs.Cmp.{both_ways}

-- ---- tests

-- two tests of one outcome
pub ltb_as : (x y a b : ℕ) → (x < y → a < b) → (a < b → x < y) → ltb x y ≡ ltb a b
ltb_as x y a b f g = both_ways (ltb x y) (ltb a b) (λ e. lt-ltb a b (f (ltb-true x y e))) (λ e. lt-ltb x y (g (ltb-true a b e)))

pub and-under : (b : Bool) {x y : Bool} → (b ≡ true → x ≡ y) → b && x ≡ b && y
and-under true e = e refl
and-under false e = refl

pub or-right-first : (a b c d : Bool) → ((a || b) || c) || d ≡ a || (b || (c || d))
or-right-first true b c d = refl
or-right-first false true c d = refl
or-right-first false false c d = refl

-- ---- the fold that says what is done so far

module _ {A : Type 0} where
  pub fold-none : (step : ℕ → A → A) (a : A) → fold step a 0 ≡ a
  unfolding fold
  fold-none step a = refl

  pub fold_more : (step : ℕ → A → A) (a : A) (i : ℕ) → fold step a (i + 1) ≡ step i (fold step a i)
  unfolding fold
  fold_more step a i = rw (add-one i)

  pub fold-ext : (s t : ℕ → A → A) (a : A) (n : ℕ) → ((k : ℕ) → k < n → (b : A) → s k b ≡ t k b) → fold s a n ≡ fold t a n
  unfolding fold
  fold-ext s t a zero h = refl
  fold-ext s t a (suc n) h = ap (s n) (fold-ext s t a n (λ k l b. h k (le_step l) b)) ∙ h n (lt-suc_self n) (fold t a n)

  -- what one turn keeps, the fold has
  pub fold-keeps : (P : ℕ → A → Type 0) (step : ℕ → A → A) (a : A) (n : ℕ) → P 0 a → ((k : ℕ) → k < n → (b : A) → P k b → P (k + 1) (step k b)) → P n (fold step a n)
  unfolding fold
  fold-keeps P step a zero p h = p
  fold-keeps P step a (suc n) p h = subst (λ (m : ℕ). P m (step n (fold step a n))) (add-one n) (h n (lt-suc_self n) (fold step a n) (fold-keeps P step a n p (λ k l b. h k (le_step l) b)))

  -- no k passes
  pub fold-kept : (p : ℕ → Bool) (g : ℕ → A → A) (a : A) (n : ℕ) → ((j : ℕ) → j < n → p j ≡ false) → fold (turn p g) a n ≡ a
  unfolding fold
  fold-kept p g a zero h = refl
  fold-kept p g a (suc n) h = rw (h n (lt-suc_self n)) (fold-kept p g a n (λ j l. h j (le_step l)))

  -- of values stored over each other the last stays
  pub fold-last : (p : ℕ → Bool) (v : ℕ → A) (a : A) (n k : ℕ) → k < n → p k ≡ true → ((j : ℕ) → k < j → j < n → p j ≡ false) → fold (turn p (λ j b. v j)) a n ≡ v k
  unfolding fold
  fold-last p v a zero k l e h = absurd (omega arith)
  fold-last p v a (suc n) k l e h =
      elim (ℕ_discrete k n) [
        | yes d ↦ rw (← d, e)
        | no f ↦ rw (h n (omega (arith, f)) (lt-suc_self n)) (fold-last p v a n k (omega (arith, f)) e (λ j a b. h j a (le_step b)))
      ]

-- ---- some, every, how many

-- the sum of the numbers f k, k below n
unfoldable pub total : (ℕ → ℕ) → ℕ → ℕ
total f zero = 0
total f (suc n) = total f n + f n

module _ (p : ℕ → Bool) where
  pub some-none : some p 0 ≡ false
  unfolding some
  some-none = refl

  pub some_more : (i : ℕ) → some p (i + 1) ≡ some p i || p i
  unfolding some
  some_more i = rw (add-one i)

  pub some-yes : (n k : ℕ) → k < n → p k ≡ true → some p n ≡ true
  unfolding some
  some-yes zero k h e = absurd (omega arith)
  some-yes (suc n) k h e = go (some p n) (p n) (some-yes n k) (λ (q : k ≡ n). ap p (sym q) ∙ e)
    where
      go : (a b : Bool) → (k < n → p k ≡ true → a ≡ true) → (k ≡ n → b ≡ true) → a || b ≡ true
      go true b f g = refl
      go false true f g = refl
      go false false f g = let ne : k ≡ n → ⊥ = λ q. false≢true (g q) in absurd (false≢true (f (omega (arith, ne)) e))

  pub some_at : (n : ℕ) → some p n ≡ true → (k : ℕ) × (k < n) × (p k ≡ true)
  unfolding some
  some_at zero e = absurd (false≢true e)
  some_at (suc n) e = go (some p n) (p n) refl refl e (some_at n)
    where
      go : (a b : Bool) → some p n ≡ a → p n ≡ b → a || b ≡ true → (some p n ≡ true → (k : ℕ) × (k < n) × (p k ≡ true)) → (k : ℕ) × (k < suc n) × (p k ≡ true)
      go true b f g h r = let w = r f in (w.0, le_step w.1, w.2)
      go false true f g h r = (n, lt-suc_self n, g)
      go false false f g h r = absurd (false≢true h)

  pub some-no : (n : ℕ) → ((k : ℕ) → k < n → p k ≡ false) → some p n ≡ false
  some-no n h = false_from_ne_true (some p n) (λ e. let w = some_at n e in true≢false (sym w.2 ∙ h w.0 w.1))

  -- where none is, each fails
  pub some-fails : (n : ℕ) → some p n ≡ false → (k : ℕ) → k < n → p k ≡ false
  some-fails n e k l = false_from_ne_true (p k) (λ t. true≢false (sym (some-yes n k l t) ∙ e))

  pub every-none : every p 0 ≡ true
  unfolding every
  every-none = refl

  pub every_more : (i : ℕ) → every p (i + 1) ≡ every p i && p i
  unfolding every
  every_more i = rw (add-one i)

  pub every-at : (n : ℕ) → every p n ≡ true → (k : ℕ) → k < n → p k ≡ true
  unfolding every
  every-at zero e k h = absurd (omega arith)
  every-at (suc n) e k h =
      ⊎_elim
      (λ (d : k ≡ n). ap p d ∙ (and_parts (every p n) (p n) e).1)
      (λ (l : k < n). every-at n (and_parts (every p n) (p n) e).0 k l)
      (eq-or-lt_of_le (omega arith))

  pub every-yes : (n : ℕ) → ((k : ℕ) → k < n → p k ≡ true) → every p n ≡ true
  unfolding every
  every-yes zero h = refl
  every-yes (suc n) h = rw (every-yes n (λ k l. h k (le_step l)), h n (lt-suc_self n))

  pub tally-none : tally p 0 ≡ 0
  unfolding tally
  tally-none = refl

  pub tally-more : (i : ℕ) → tally p (i + 1) ≡ cond (p i) (tally p i + 1) (tally p i)
  unfolding tally
  tally-more i = rw (add-one i)

  -- one more turn of a loop that counts by a branch
  pub tally-turn : (k : ℕ) {r c : ℕ} {b : Bool} → r ≡ cond b (c + 1) c → b ≡ p k → c ≡ tally p k → r ≡ tally p (k + 1)
  tally-turn k h e i = h ∙ rw (e, i) (sym (tally-more k))

  pub tally-le : (n : ℕ) → tally p n ≤ n
  unfolding tally
  tally-le zero = omega arith
  tally-le (suc n) = go (p n) (tally-le n)
    where
      go : (b : Bool) → tally p n ≤ n → cond b (tally p n + 1) (tally p n) ≤ suc n
      go true h = omega arith
      go false h = omega arith

  pub sum_more : (f : ℕ → Float) (i : ℕ) → sum_of p f (i + 1) ≡ cond (p i) (sum_of p f i ⊕ f i) (sum_of p f i)
  unfolding sum_of
  sum_more f i = rw (add-one i)

pub some-ext : (p q : ℕ → Bool) (n : ℕ) → ((k : ℕ) → k < n → p k ≡ q k) → some p n ≡ some q n
unfolding some
some-ext p q zero h = refl
some-ext p q (suc n) h = rw (some-ext p q n (λ k l. h k (le_step l)), h n (lt-suc_self n))

pub every-ext : (p q : ℕ → Bool) (n : ℕ) → ((k : ℕ) → k < n → p k ≡ q k) → every p n ≡ every q n
unfolding every
every-ext p q zero h = refl
every-ext p q (suc n) h = rw (every-ext p q n (λ k l. h k (le_step l)), h n (lt-suc_self n))

pub tally-ext : (p q : ℕ → Bool) (n : ℕ) → ((k : ℕ) → k < n → p k ≡ q k) → tally p n ≡ tally q n
unfolding tally
tally-ext p q zero h = refl
tally-ext p q (suc n) h = rw (tally-ext p q n (λ k l. h k (le_step l)), h n (lt-suc_self n))

-- a value counts only where its test passes
pub sum-ext : (p q : ℕ → Bool) (f g : ℕ → Float) (n : ℕ) → ((k : ℕ) → k < n → p k ≡ q k) → ((k : ℕ) → k < n → q k ≡ true → f k ≡ g k) → sum_of p f n ≡ sum_of q g n
unfolding sum_of
sum-ext p q f g zero h v = refl
sum-ext p q f g (suc n) h v = rw (h n (lt-suc_self n), sum-ext p q f g n (λ k l. h k (le_step l)) (λ k l. v k (le_step l))) (go (q n) (v n (lt-suc_self n)))
  where
    go : (b : Bool) → (b ≡ true → f n ≡ g n) → cond b (sum_of q g n ⊕ f n) (sum_of q g n) ≡ cond b (sum_of q g n ⊕ g n) (sum_of q g n)
    go true e = rw (e refl)
    go false e = refl

-- fewer pass where the test asks more
pub tally-mono : (p q : ℕ → Bool) (n : ℕ) → ((k : ℕ) → k < n → p k ≡ true → q k ≡ true) → tally p n ≤ tally q n
unfolding tally
tally-mono p q zero h = omega arith
tally-mono p q (suc n) h = go (p n) (q n) (h n (lt-suc_self n)) (tally-mono p q n (λ k l. h k (le_step l)))
  where
    go : (a b : Bool) → (a ≡ true → b ≡ true) → tally p n ≤ tally q n → cond a (tally p n + 1) (tally p n) ≤ cond b (tally q n + 1) (tally q n)
    go true true e l = omega arith
    go true false e l = absurd (false≢true (e refl))
    go false true e l = omega arith
    go false false e l = l

-- some passes just where the count is above 0
pub tally-some : (p : ℕ → Bool) (n : ℕ) → some p n ≡ true → 0 < tally p n
unfolding some tally
tally-some p zero e = absurd (false≢true e)
tally-some p (suc n) e = go (p n) (some p n) e (tally-some p n)
  where
    go : (b s : Bool) → s || b ≡ true → (s ≡ true → 0 < tally p n) → 0 < cond b (tally p n + 1) (tally p n)
    go true s e r = omega arith
    go false true e r = r refl
    go false false e r = absurd (false≢true e)

-- the one k below n that is m
pub some_one : (p : ℕ → Bool) (n m : ℕ) → m < n → some (λ (k : ℕ). p k && eqb k m) n ≡ p m
some_one p n m l =
    both_ways (some (λ (k : ℕ). p k && eqb k m) n) (p m)
    (λ e. let w = some_at (λ (k : ℕ). p k && eqb k m) n e in found w.0 w.2)
    (λ e. some-yes (λ (k : ℕ). p k && eqb k m) n m l (rw (e, eq-eqb m m refl)))
  where
    found : (k : ℕ) → p k && eqb k m ≡ true → p m ≡ true
    found k e =
        elim (ℕ_discrete k m) [
          | yes d ↦ rw d at (and_parts (p k) (eqb k m) e).0
          | no f ↦ absurd (false≢true (sym (ne_eqb k m f) ∙ (and_parts (p k) (eqb k m) e).1))
        ]

-- ---- the first and the last

module _ (p : ℕ → Bool) where
  first-at : (m l i : ℕ) → m ≡ suc l → first_in p m i ≡ cond (p i) i (first_in p l (i + 1))
  unfolding first_in
  first-at m l i e = rw e

  pub first_more : (i n : ℕ) → i < n → first p i n ≡ cond (p i) i (first p (i + 1) n)
  unfolding first
  first_more i n h = first-at (n - i) (n - (i + 1)) i (omega arith)

  pub first-end : (i n : ℕ) → n ≤ i → first p i n ≡ i
  unfolding first first_in
  first-end i n h = let e : n - i ≡ 0 = omega arith in rw e

  first_in-before : (m i k : ℕ) → i ≤ k → k < first_in p m i → p k ≡ false
  unfolding first_in
  first_in-before zero i k h l = absurd (omega arith)
  first_in-before (suc m) i k h l = go (p i) refl l (first_in-before m (i + 1) k)
    where
      go : (b : Bool) → p i ≡ b → k < cond b i (first_in p m (i + 1)) → (i + 1 ≤ k → k < first_in p m (i + 1) → p k ≡ false) → p k ≡ false
      go true e l r = absurd (omega arith)
      go false e l r = ⊎_elim (λ (d : i ≡ k). ap p (sym d) ∙ e) (λ (d : i < k). r (omega arith) l) (eq-or-lt_of_le h)

  first_in-holds : (m i : ℕ) → first_in p m i < i + m → p (first_in p m i) ≡ true
  unfolding first_in
  first_in-holds zero i l = absurd (omega arith)
  first_in-holds (suc m) i l = go (p i) refl l (first_in-holds m (i + 1))
    where
      go : (b : Bool) → p i ≡ b → cond b i (first_in p m (i + 1)) < i + suc m → (first_in p m (i + 1) < i + 1 + m → p (first_in p m (i + 1)) ≡ true) → p (cond b i (first_in p m (i + 1))) ≡ true
      go true e l r = e
      go false e l r = r (omega arith)

  first_in-from : (m i : ℕ) → i ≤ first_in p m i
  unfolding first_in
  first_in-from zero i = omega arith
  first_in-from (suc m) i = go (p i) (first_in-from m (i + 1))
    where
      go : (b : Bool) → i + 1 ≤ first_in p m (i + 1) → i ≤ cond b i (first_in p m (i + 1))
      go true h = omega arith
      go false h = omega arith

  first_in-le : (m i : ℕ) → first_in p m i ≤ i + m
  unfolding first_in
  first_in-le zero i = omega arith
  first_in-le (suc m) i = go (p i) (first_in-le m (i + 1))
    where
      go : (b : Bool) → first_in p m (i + 1) ≤ i + 1 + m → cond b i (first_in p m (i + 1)) ≤ i + suc m
      go true h = omega arith
      go false h = omega arith

  -- no k before the first passes
  pub first-before : (i n k : ℕ) → i ≤ k → k < first p i n → p k ≡ false
  unfolding first
  first-before i n k h l = first_in-before (n - i) i k h l

  -- the first passes, if there is one
  pub first_holds : (i n : ℕ) → first p i n < n → p (first p i n) ≡ true
  unfolding first
  first_holds i n l = elim (dec_le i n) [ yes h ↦ first_in-holds (n - i) i (omega arith) | no f ↦ absurd (omega (arith, first-end i n (omega arith))) ]

  pub first-le : (i n : ℕ) → i ≤ n → first p i n ≤ n
  unfolding first
  first-le i n h = omega (arith, first_in-le (n - i) i)

  -- the first from i on is not before i
  pub first-from : (i n : ℕ) → i ≤ first p i n
  unfolding first
  first-from i n = first_in-from (n - i) i

  -- from 0 on: k is the first
  pub first-hit : (n k : ℕ) → k < n → p k ≡ true → ((j : ℕ) → j < k → p j ≡ false) → first p 0 n ≡ k
  first-hit n k l e h =
      elim (dec_le (first p 0 n) k) [
        | yes g ↦ ⊎_elim
            (λ (d : first p 0 n ≡ k). d)
            (λ (m : first p 0 n < k). absurd (true≢false (sym (first_holds 0 n (omega arith)) ∙ h (first p 0 n) m)))
            (eq-or-lt_of_le g)
        | no f ↦ absurd (true≢false (sym e ∙ first-before 0 n k (omega arith) (omega (arith, f))))
      ]

  pub first-miss : (n : ℕ) → ((j : ℕ) → j < n → p j ≡ false) → first p 0 n ≡ n
  first-miss n h =
      ⊎_elim
      (λ (d : first p 0 n ≡ n). d)
      (λ (m : first p 0 n < n). absurd (true≢false (sym (first_holds 0 n m) ∙ h (first p 0 n) m)))
      (eq-or-lt_of_le (first-le 0 n (omega arith)))

  pub last_none : (d : ℕ) → last p d 0 ≡ d
  unfolding last
  last_none d = refl

  pub last_more : (d i : ℕ) → last p d (i + 1) ≡ cond (p i) i (last p d i)
  unfolding last
  last_more d i = rw (add-one i)

  -- k is the last
  pub last-hit : (d n k : ℕ) → k < n → p k ≡ true → ((j : ℕ) → k < j → j < n → p j ≡ false) → last p d n ≡ k
  unfolding last
  last-hit d zero k l e h = absurd (omega arith)
  last-hit d (suc n) k l e h =
      elim (ℕ_discrete k n) [
        | yes q ↦ rw (← q, e)
        | no f ↦ rw (h n (omega (arith, f)) (lt-suc_self n)) (last-hit d n k (omega (arith, f)) e (λ j a b. h j a (le_step b)))
      ]

  pub last-miss : (d n : ℕ) → ((j : ℕ) → j < n → p j ≡ false) → last p d n ≡ d
  unfolding last
  last-miss d zero h = refl
  last-miss d (suc n) h = rw (h n (lt-suc_self n)) (last-miss d n (λ j l. h j (le_step l)))

  -- the last passes and is below n, where one passes
  pub last-holds : (d n : ℕ) → some p n ≡ true → (last p d n < n) × (p (last p d n) ≡ true)
  unfolding last some
  last-holds d zero e = absurd (false≢true e)
  last-holds d (suc n) e = go (p n) refl (some p n) e (last-holds d n)
    where
      go : (b : Bool) → p n ≡ b → (s : Bool) → s || b ≡ true → (s ≡ true → (last p d n < n) × (p (last p d n) ≡ true)) → (cond b n (last p d n) < suc n) × (p (cond b n (last p d n)) ≡ true)
      go true q s e r = (lt-suc_self n, q)
      go false q true e r = let w = r refl in (le_step w.0, w.1)
      go false q false e r = absurd (false≢true e)

  -- no k after the last passes
  pub last-after : (d n k : ℕ) → k < n → p k ≡ true → k ≤ last p d n
  unfolding last
  last-after d zero k l e = absurd (omega arith)
  last-after d (suc n) k l e = go (p n) refl (last-after d n k)
    where
      go : (b : Bool) → p n ≡ b → (k < n → p k ≡ true → k ≤ last p d n) → k ≤ cond b n (last p d n)
      go true q r = omega arith
      go false q r =
          elim (ℕ_discrete k n) [
            | yes s ↦ absurd (true≢false (sym e ∙ ap p s ∙ q))
            | no f ↦ r (omega (arith, f)) e
          ]

pub first-ext : (p q : ℕ → Bool) (n : ℕ) → ((k : ℕ) → k < n → p k ≡ q k) → first p 0 n ≡ first q 0 n
first-ext p q n h =
    ⊎_elim
    (λ (d : first q 0 n ≡ n). first-miss p n (λ j l. h j l ∙ first-before q 0 n j (omega arith) (omega arith)) ∙ sym d)
    (λ (m : first q 0 n < n). first-hit p n (first q 0 n) m (h (first q 0 n) m ∙ first_holds q 0 n m) (λ j l. h j (omega arith) ∙ first-before q 0 n j (omega arith) l))
    (eq-or-lt_of_le (first-le q 0 n (omega arith)))

pub last-ext : (p q : ℕ → Bool) (d n : ℕ) → ((k : ℕ) → k < n → p k ≡ q k) → last p d n ≡ last q d n
unfolding last
last-ext p q d zero h = refl
last-ext p q d (suc n) h = rw (h n (lt-suc_self n), last-ext p q d n (λ k l. h k (le_step l)))
