-- One turn more of a loop that changes elements at keys, and what its folds are: a count, a mark, the largest. Assumes nothing.
use mathlib.Core.Path.{◌≡◌, refl, sym, ◌∙◌}
use mathlib.Core.Bool.{Bool, true, false, cond, ◌&&◌, ◌||◌, false≢true}
use mathlib.Core.List.{List}
use Prim.Native.Nat.{ℕ, zero, suc, ◌+◌, ◌≤◌, ◌<◌, zero-le}
use native.Mathlib.Decide.{ℕ_discrete}
use native.Mathlib.Omega.{arith}
use borrow.Author.Tests.{eq-eqb, ne_eqb, lt-ltb, le-ltb, ltb-true, ltb-false}
use lib.Dec.{eqb, ltb}
use lib.ListN.{length, get_or, set, length-set}
use lib.Seq.{get_or-set_same, get_or-set_other}
use Rattle.folds.specs.Below.{fold, turn, tally, some}
use Rattle.folds.proofs.Below.{fold-none, fold_more, tally-le}
use Rattle.folds.specs.Marked.{bit}
use Rattle.folds.specs.Scattered.{counts, Scattered, one_more, larger}
use Rattle.std.proofs.Math.Bool.{and-false}

module _ {A : Type 0} where
  module _ (d : A) (key : ℕ → ℕ) (q : ℕ → Bool) (g : ℕ → A → A) (a₀ : List A) where
    pub scattered-none : Scattered d key q g a₀ 0 a₀
    scattered-none = record { size = refl; at = λ m l. sym (fold-none (turn (counts key q m) g) (get_or a₀ m d)) }

    -- k changes nothing: it fails the test, or its key is no place
    pub scattered-skip : (i : ℕ) (a : List A) → q i ≡ false → Scattered d key q g a₀ i a → Scattered d key q g a₀ (i + 1) a
    scattered-skip i a e t = record { size = t.size; at = λ m l. rw (fold_more (turn (counts key q m) g) (get_or a₀ m d) i, e, and-false (eqb (key i) m)) (t.at m l) }

    pub scattered-put : (i v : ℕ) (a : List A) → v < length a₀ → v ≡ key i → q i ≡ true → Scattered d key q g a₀ i a → Scattered d key q g a₀ (i + 1) (set a v (g i (get_or a v d)))
    scattered-put i v a h f e t = record {
      size = length-set a v (g i (get_or a v d)) ∙ t.size;
      at = λ m l. elim (ℕ_discrete m v) [
        | yes s ↦ rw (fold_more (turn (counts key q m) g) (get_or a₀ m d) i, e, eq-eqb (key i) m (sym (s ∙ f)), s, get_or-set_same a v (g i (get_or a v d)) d (omega (arith, h, t.size)), t.at v h)
        | no s ↦ rw (fold_more (turn (counts key q m) g) (get_or a₀ m d) i, e, ne_eqb (key i) m (λ r. s (sym (f ∙ r))), get_or-set_other a v m (g i (get_or a v d)) d s) (t.at m l)
      ];
    }

-- ---- counting and marking

abbrev pub mark_it : ℕ → ℕ → ℕ
mark_it k x = 1

pub fold-tally : (p : ℕ → Bool) (x n : ℕ) → fold (turn p one_more) x n ≡ x + tally p n
unfolding fold tally
fold-tally p x zero = omega arith
fold-tally p x (suc n) = go (p n) (fold-tally p x n)
  where
    go : (b : Bool) → fold (turn p one_more) x n ≡ x + tally p n → cond b (fold (turn p one_more) x n + 1) (fold (turn p one_more) x n) ≡ x + cond b (tally p n + 1) (tally p n)
    go true h = omega arith
    go false h = h

pub fold-some : (p : ℕ → Bool) (b : Bool) (n : ℕ) → fold (turn p mark_it) (bit b) n ≡ bit (b || some p n)
unfolding fold some
fold-some p true zero = refl
fold-some p false zero = refl
fold-some p b (suc n) = go (p n) b (some p n) (fold (turn p mark_it) (bit b) n) (fold-some p b n)
  where
    go : (c b s : Bool) (x : ℕ) → x ≡ bit (b || s) → cond c 1 x ≡ bit (b || (s || c))
    go true true s x h = refl
    go true false true x h = refl
    go true false false x h = refl
    go false true s x h = h
    go false false true x h = h
    go false false false x h = h

-- no count grows by more than one a turn
pub counted-le : (key : ℕ → ℕ) (q : ℕ → Bool) (a₀ : List ℕ) (i v : ℕ) (a : List ℕ) → v < length a₀ → Scattered 0 key q one_more a₀ i a → get_or a v 0 ≤ get_or a₀ v 0 + i
counted-le key q a₀ i v a h t = omega (arith, t.at v h, fold-tally (counts key q v) (get_or a₀ v 0) i, tally-le (counts key q v) i)

-- ---- the largest

-- one of two tests, where one follows from the other
pub or_same : (a b : Bool) → (b ≡ true → a ≡ true) → a ≡ a || b
or_same true b h = refl
or_same false true h = h refl
or_same false false h = refl

pub or-next : (a b : Bool) → (a ≡ true → b ≡ true) → b ≡ a || b
or-next true b h = h refl
or-next false b h = refl

-- the largest is above c where one is
pub fold-above : (p : ℕ → Bool) (v : ℕ → ℕ) (c n : ℕ) → ltb c (fold (turn p (larger v)) 0 n) ≡ some (λ k. p k && ltb c (v k)) n
unfolding fold some
fold-above p v c zero = le-ltb c 0 zero-le
fold-above p v c (suc n) = go (p n) (ltb (fold (turn p (larger v)) 0 n) (v n)) refl (fold-above p v c n)
  where
    go : (q l : Bool) → ltb (fold (turn p (larger v)) 0 n) (v n) ≡ l → ltb c (fold (turn p (larger v)) 0 n) ≡ some (λ k. p k && ltb c (v k)) n → ltb c (cond q (cond l (v n) (fold (turn p (larger v)) 0 n)) (fold (turn p (larger v)) 0 n)) ≡ some (λ k. p k && ltb c (v k)) n || (q && ltb c (v n))
    go false l e h = h ∙ or_same (some (λ k. p k && ltb c (v k)) n) false (λ b. absurd (false≢true b))
    go true true e h = or-next (some (λ k. p k && ltb c (v k)) n) (ltb c (v n)) (λ b. lt-ltb c (v n) (omega (arith, ltb-true c (fold (turn p (larger v)) 0 n) (h ∙ b), ltb-true (fold (turn p (larger v)) 0 n) (v n) e)))
    go true false e h = h ∙ or_same (some (λ k. p k && ltb c (v k)) n) (ltb c (v n)) (λ b. sym h ∙ lt-ltb c (fold (turn p (larger v)) 0 n) (omega (arith, ltb-true c (v n) b, ltb-false (fold (turn p (larger v)) 0 n) (v n) e)))
