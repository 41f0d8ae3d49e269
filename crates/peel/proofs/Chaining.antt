-- Laws of chains: one rank more in its chain, and what the next rank of a chain is. Assumes nothing.
use Rattle.std.proofs.Common.{◌≡◌, refl, sym, ap, ◌∙◌, Bool, true, false, cond, List, ℕ, zero, suc, ◌+◌, ◌≤◌, ◌<◌, Option, None, Some, get_or, set, replicate, arith, add-one, length-set, eq-eqb, ne_eqb}
use Prim.{yes, no}
use mathlib.Core.Logic.{⊎_elim}
use native.Mathlib.Nat.{eq-or-lt_of_le}
use native.Mathlib.Decide.{ℕ_discrete}
use lib.ListN.{length-replicate}
use lib.Seq.{get_or-set_same, get_or-set_other}
use Rattle.folds.proofs.Column.{replicate-at}
use Rattle.view.specs.View.{max_points}
use Rattle.peel.specs.Work.{index_at, last_below, with_index, Chained}

-- one more than a number, or 0 where there is none
abbrev pub past : Option ℕ → ℕ
past None = 0
past (Some k) = k + 1

module _ (p : ℕ → Bool) where
  last-more : (i : ℕ) → last_below p (i + 1) ≡ cond (p i) (Some i) (last_below p i)
  unfolding last_below
  last-more i = rw (add-one i) refl

  pub past-le : (m : ℕ) → past (last_below p m) ≤ m
  unfolding last_below
  past-le zero = omega arith
  past-le (suc m) = go (p m) (past-le m)
    where
      go : (b : Bool) → past (last_below p m) ≤ m → past (cond b (Some m) (last_below p m)) ≤ suc m
      go true h = omega arith
      go false h = omega arith

  -- the last one below m, and none after it
  pub record Last (m x : ℕ) : Type 0 where
    pub below : x < m
    pub has : p x ≡ true
    pub none : (y : ℕ) → x < y → y < m → p y ≡ false

  pub last-is : (m x : ℕ) → last_below p m ≡ Some x → Last m x
  unfolding last_below
  last-is zero x e = cc
  last-is (suc m) x e = go (p m) refl e (last-is m x)
    where
      go : (b : Bool) → p m ≡ b → cond b (Some m) (last_below p m) ≡ Some x → (last_below p m ≡ Some x → Last m x) → Last (suc m) x
      go true t f r =
          let d : m ≡ x = cc in
          record { below = omega arith; has = ap p (sym d) ∙ t; none = λ y g h. absurd (omega arith) }
      go false t f r =
          let l = r f in
          record { below = omega (arith, l.below); has = l.has; none = λ y g h. ⊎_elim (λ (d : y ≡ m). ap p d ∙ t) (λ (d : y < m). l.none y g d) (eq-or-lt_of_le (omega arith)) }

  pub last-none : (m : ℕ) → last_below p m ≡ None → (y : ℕ) → y < m → p y ≡ false
  unfolding last_below
  last-none zero e y h = absurd (omega arith)
  last-none (suc m) e y h = go (p m) refl e (last-none m)
    where
      go : (b : Bool) → p m ≡ b → cond b (Some m) (last_below p m) ≡ None → (last_below p m ≡ None → (y : ℕ) → y < m → p y ≡ false) → p y ≡ false
      go true t f r = cc
      go false t f r = ⊎_elim (λ (d : y ≡ m). ap p d ∙ t) (λ (d : y < m). r f y d) (eq-or-lt_of_le (omega arith))

-- ---- one rank more

module _ {ranks : List ℕ} where
  pub chain-none : Chained ranks 0 (replicate max_points None) (replicate max_points None)
  unfolding last_below
  chain-none = record {
    last_long = length-replicate {A = Option ℕ} max_points None;
    before_long = length-replicate {A = Option ℕ} max_points None;
    heads = λ b h. replicate-at {A = Option ℕ} max_points None b;
    nexts = λ k h. absurd (omega arith);
  }

  pub chain-put : {i b : ℕ} {last before : List (Option ℕ)} → Chained ranks i last before → b ≡ index_at ranks i → b < max_points → i < max_points
      → Chained ranks (i + 1) (set last b (Some i)) (set before i (get_or last b None))
  chain-put {i} {b} {last} {before} c e l h = record {
    last_long = length-set last b (Some i) ∙ c.last_long;
    before_long = length-set before i (get_or last b None) ∙ c.before_long;
    heads = λ m r. elim (ℕ_discrete m b) [
      | yes d ↦ rw (d, get_or-set_same last b (Some i) None (omega (arith, c.last_long))) (sym (last-more (with_index ranks b) i ∙ rw (eq-eqb (index_at ranks i) b (sym e))))
      | no d ↦ get_or-set_other last b m (Some i) None d ∙ c.heads m r ∙ sym (last-more (with_index ranks m) i ∙ rw (ne_eqb (index_at ranks i) m (λ z. d (sym z ∙ sym e))))
    ];
    nexts = λ k r. ⊎_elim
        (λ (d : k ≡ i). rw d (get_or-set_same before i (get_or last b None) None (omega (arith, c.before_long)) ∙ c.heads b l ∙ ap (λ (m : ℕ). last_below (with_index ranks m) i) e))
        (λ (d : k < i). get_or-set_other before i k (get_or last b None) None (λ z. omega (arith, z, d)) ∙ c.nexts k d)
        (eq-or-lt_of_le (omega arith));
  }
