-- Two tests of the numbers below n: of which no number passes both, and of which the one's are taken one for one to the other's. Assumes nothing.
use mathlib.Core.Path.{◌≡◌, refl, ap}
use mathlib.Core.Bool.{Bool, true, false, cond, not, ◌&&◌, true≢false}
use Prim.Native.Nat.{ℕ, zero, suc, ◌+◌, ◌≤◌, ◌<◌}
use native.Mathlib.Nat.{lt-suc_self, le_step}
use native.Mathlib.Omega.{arith}
use borrow.Author.Tests.{eq-eqb, ne_eqb}
use lib.Dec.{eqb}
use Rattle.folds.specs.Below.{tally}
use Rattle.folds.proofs.Counting.{tally-grows}
use Rattle.std.proofs.Math.Bool.{and-false}
use Rattle.std.proofs.lemmas.Bool.{and_from, and_parts}

-- where no number passes both, they pass no more than there are
pub tally-apart : (p q : ℕ → Bool) (n : ℕ) → ((k : ℕ) → k < n → p k ≡ true → q k ≡ false) → tally p n + tally q n ≤ n
unfolding tally
tally-apart p q zero h = omega arith
tally-apart p q (suc n) h = go (p n) (q n) (h n (lt-suc_self n)) (tally-apart p q n (λ k l. h k (le_step l)))
  where
    go : (a b : Bool) → (a ≡ true → b ≡ false) → tally p n + tally q n ≤ n → cond a (tally p n + 1) (tally p n) + cond b (tally q n + 1) (tally q n) ≤ suc n
    go true true e l = absurd (true≢false (e refl))
    go true false e l = omega arith
    go false true e l = omega arith
    go false false e l = omega arith

-- where each that passes p is taken to one that passes q, and no two to one, q passes as many or more
pub tally-into : (p q : ℕ → Bool) (n m : ℕ) (to : (k : ℕ) → k < n → p k ≡ true → (j : ℕ) × (j < m) × (q j ≡ true))
    → ((i k : ℕ) (a : i < n) (b : k < n) (e : p i ≡ true) (f : p k ≡ true) → i < k → (to i a e).0 ≡ (to k b f).0 → ⊥) → tally p n ≤ tally q m
unfolding tally
tally-into p q zero m to apart = omega arith
tally-into p q (suc n) m to apart =
    go (p n) refl
    (tally-into p q n m (λ k l. to k (le_step l)) (λ i k a b. apart i k (le_step a) (le_step b)))
    (λ e. tally-into p (rest e) n m (still e) (λ i k a b. apart i k (le_step a) (le_step b)))
  where
    -- those of q that n is not taken to
    rest : p n ≡ true → ℕ → Bool
    rest e j = q j && not (eqb j (to n (lt-suc_self n) e).0)

    still : (e : p n ≡ true) (k : ℕ) → k < n → p k ≡ true → (j : ℕ) × (j < m) × (rest e j ≡ true)
    still e k l f =
        let t = to k (le_step l) f in
        let last = (to n (lt-suc_self n) e).0 in
        (t.0, t.1, and_from (q t.0) (not (eqb t.0 last)) t.2 (ap not (ne_eqb t.0 last (apart k n (le_step l) (lt-suc_self n) f e l))))

    fewer : (e : p n ≡ true) → tally (rest e) m < tally q m
    fewer e =
        let t = to n (lt-suc_self n) e in
        tally-grows (rest e) q m t.0 t.1 (rw (eq-eqb t.0 t.0 refl) (and-false (q t.0))) t.2 (λ j l. (λ h. (and_parts (q j) (not (eqb j t.0)) h).0))

    go : (b : Bool) → p n ≡ b → tally p n ≤ tally q m → ((e : p n ≡ true) → tally p n ≤ tally (rest e) m) → cond b (tally p n + 1) (tally p n) ≤ tally q m
    go true e l r = omega (arith, fewer e, r e)
    go false e l r = l
