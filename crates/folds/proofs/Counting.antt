-- How many pass a test: with one more, with fewer, with all, with two and with three. Assumes nothing.
use mathlib.Core.Path.{◌≡◌, refl, sym, ap, ◌∙◌}
use mathlib.Core.Bool.{Bool, true, false, cond, not, ◌&&◌, false≢true}
use mathlib.Core.Logic.{◌⊎◌, inl, inr}
use Prim.{yes, no}
use Prim.Native.Nat.{ℕ, zero, suc, ◌+◌, ◌≤◌, ◌<◌}
use native.Mathlib.Nat.{lt-suc_self, le_step}
use native.Mathlib.Decide.{ℕ_discrete}
use native.Mathlib.Omega.{arith}
use borrow.Author.Tests.{eq-eqb, ne_eqb}
use lib.Dec.{eqb}
use Rattle.folds.specs.Below.{some, tally}
use Rattle.folds.proofs.Below.{some-yes, some_at, some-fails, tally-le, tally-mono, tally-some}
use Rattle.std.proofs.Math.Bool.{and-false}
use Rattle.std.proofs.lemmas.Bool.{and_from, and_parts, not-false, not-true}

-- more pass where each that passed does, and one more
pub tally-grows : (p q : ℕ → Bool) (n j : ℕ) → j < n → p j ≡ false → q j ≡ true → ((k : ℕ) → k < n → p k ≡ true → q k ≡ true) → tally p n < tally q n
unfolding tally
tally-grows p q zero j h a b imp = absurd (omega arith)
tally-grows p q (suc n) j h a b imp =
    elim (ℕ_discrete j n) [
      | yes d ↦ rw (ap p (sym d) ∙ a, ap q (sym d) ∙ b) (omega (arith, tally-mono p q n (λ k l. imp k (le_step l))))
      | no f ↦ go (p n) (q n) (imp n (lt-suc_self n)) (tally-grows p q n j (omega (arith, f)) a b (λ k l. imp k (le_step l)))
    ]
  where
    go : (x y : Bool) → (x ≡ true → y ≡ true) → tally p n < tally q n → cond x (tally p n + 1) (tally p n) < cond y (tally q n + 1) (tally q n)
    go true true e l = omega arith
    go true false e l = absurd (false≢true (e refl))
    go false true e l = omega arith
    go false false e l = l

-- not all pass where one does not
pub tally-below : (p : ℕ → Bool) (n j : ℕ) → j < n → p j ≡ false → tally p n < n
tally-below p n j h e = omega (arith, tally-grows p (λ (m : ℕ). true) n j h e refl (λ m l g. refl), tally-le (λ (m : ℕ). true) n)

-- where all pass, each does
pub tally-full : (p : ℕ → Bool) (n : ℕ) → n ≤ tally p n → (k : ℕ) → k < n → p k ≡ true
tally-full p n f k h = go (p k) refl
  where
    go : (b : Bool) → p k ≡ b → p k ≡ true
    go true e = e
    go false e = absurd (omega (arith, tally-below p n k h e))

-- where fewer pass, one that passed does not
pub tally-lost : (p q : ℕ → Bool) (n : ℕ) → tally q n < tally p n → (i : ℕ) × (i < n) × (p i ≡ true) × (q i ≡ false)
tally-lost p q n h = go (some (λ (i : ℕ). p i && not (q i)) n) refl
  where
    passes : (a b : Bool) → a && not b ≡ false → a ≡ true → b ≡ true
    passes true b e f = not-false b e
    passes false b e f = absurd (false≢true f)

    go : (b : Bool) → some (λ (i : ℕ). p i && not (q i)) n ≡ b → (i : ℕ) × (i < n) × (p i ≡ true) × (q i ≡ false)
    go true e = let w = some_at (λ (i : ℕ). p i && not (q i)) n e in (w.0, w.1, (and_parts (p w.0) (not (q w.0)) w.2).0, not-true (q w.0) (and_parts (p w.0) (not (q w.0)) w.2).1)
    go false e = absurd (omega (arith, tally-mono p q n (λ k l f. passes (p k) (q k) (some-fails (λ (i : ℕ). p i && not (q i)) n e k l) f)))

-- where none passes, and where all do
pub tally-no : (p : ℕ → Bool) (n : ℕ) → ((k : ℕ) → k < n → p k ≡ false) → tally p n ≡ 0
unfolding tally
tally-no p zero h = refl
tally-no p (suc n) h = rw (h n (lt-suc_self n)) (tally-no p n (λ k l. h k (le_step l)))

pub tally-all : (n : ℕ) → tally (λ (k : ℕ). true) n ≡ n
unfolding tally
tally-all zero = refl
tally-all (suc n) = omega (arith, tally-all n)

-- where some pass, one does
pub tally-has : (p : ℕ → Bool) (n : ℕ) → 0 < tally p n → (i : ℕ) × (i < n) × (p i ≡ true)
unfolding tally
tally-has p zero h = absurd (omega arith)
tally-has p (suc n) h = go (p n) refl h (tally-has p n)
  where
    go : (b : Bool) → p n ≡ b → 0 < cond b (tally p n + 1) (tally p n) → (0 < tally p n → (i : ℕ) × (i < n) × (p i ≡ true)) → (i : ℕ) × (i < suc n) × (p i ≡ true)
    go true e l r = (n, lt-suc_self n, e)
    go false e l r = let w = r l in (w.0, le_step w.1, w.2)

-- where two pass, two different ones do
pub tally-two-at : (p : ℕ → Bool) (n : ℕ) → 2 ≤ tally p n → (i : ℕ) × (j : ℕ) × (i < j) × (j < n) × (p i ≡ true) × (p j ≡ true)
unfolding tally
tally-two-at p zero h = absurd (omega arith)
tally-two-at p (suc n) h = go (p n) refl h (tally-two-at p n)
  where
    go : (b : Bool) → p n ≡ b → 2 ≤ cond b (tally p n + 1) (tally p n) → (2 ≤ tally p n → (i : ℕ) × (j : ℕ) × (i < j) × (j < n) × (p i ≡ true) × (p j ≡ true))
        → (i : ℕ) × (j : ℕ) × (i < j) × (j < suc n) × (p i ≡ true) × (p j ≡ true)
    go true e l r = let w = tally-has p n (omega arith) in (w.0, n, w.1, lt-suc_self n, w.2, e)
    go false e l r = let w = r l in (w.0, w.1, w.2, le_step w.3, w.4, w.5)

-- all that pass but j
abbrev but : (ℕ → Bool) → ℕ → ℕ → Bool
but p j m = p m && not (eqb m j)

but-less : (p : ℕ → Bool) (n j : ℕ) → j < n → p j ≡ true → tally (but p j) n < tally p n
but-less p n j h e = tally-grows (but p j) p n j h (rw (eq-eqb j j refl) (and-false (p j))) e (λ m l. (λ h. (and_parts (p m) (not (eqb m j)) h).0))

but-other : (p : ℕ → Bool) (i j : ℕ) → (i ≡ j → ⊥) → p i ≡ true → but p j i ≡ true
but-other p i j d e = and_from (p i) (not (eqb i j)) e (ap not (ne_eqb i j d))

-- where two different ones pass, two do; and so with three
pub tally-has-two : (p : ℕ → Bool) (n i j : ℕ) → i < n → j < n → (i ≡ j → ⊥) → p i ≡ true → p j ≡ true → 2 ≤ tally p n
tally-has-two p n i j h g d a b = omega (arith, but-less p n j g b, tally-some (but p j) n (some-yes (but p j) n i h (but-other p i j d a)))

pub tally-has-three : (p : ℕ → Bool) (n i j k : ℕ) → i < n → j < n → k < n → (i ≡ j → ⊥) → (i ≡ k → ⊥) → (j ≡ k → ⊥) → p i ≡ true → p j ≡ true → p k ≡ true → 3 ≤ tally p n
tally-has-three p n i j k h g f ij ik jk a b c = omega (arith, but-less p n k f c, tally-has-two (but p k) n i j h g ij (but-other p i k ik a) (but-other p j k jk b))
