-- Laws of any ordered list of conditions: what is ruled is the first that holds, and only that. Assumes nothing.
use Rattle.std.specs.List.{list_any}
use mathlib.Core.Path.{◌≡◌, refl, sym, ap, ◌∙◌}
use mathlib.Core.Bool.{Bool, true, false, cond, not, ◌||◌, true≢false}
use mathlib.Core.List.{List, [], ◌∷◌, ◌++◌}
use Prim.Native.Nat.{ℕ}
use lib.Dec.{eqb}
use borrow.Author.Tests.{eqb-true, eq-eqb}
use Rattle.folds.specs.Among.{pair_in}
use Rattle.refusals.specs.First.{Condition, ruled, applies_in, number_in}
use Rattle.std.proofs.Math.Bool.{or-true}
use Rattle.std.proofs.lemmas.Bool.{false_from_ne_true, not-false, or_parts}

abbrev pub holds : Condition → Bool
holds c = c.1

-- the numbers of a list, in its order
abbrev pub numbers_of : List Condition → List ℕ
numbers_of [] = []
numbers_of (c ∷ l) = c.0 ∷ numbers_of l

-- those before number k
abbrev pub earlier_than : List Condition → ℕ → List Condition
earlier_than [] k = []
earlier_than (c ∷ l) k = cond (eqb c.0 k) [] (c ∷ earlier_than l k)

-- no two have one number
abbrev pub DistinctNumbers : List Condition → Type 0
DistinctNumbers l = pair_in eqb (numbers_of l) ≡ false

-- number k is in the list, its condition holds, and no earlier one does
pub record FirstHolding (l : List Condition) (k : ℕ) : Type 0 where
  pub listed : list_any (eqb k) (numbers_of l) ≡ true
  pub holding : applies_in l k ≡ true
  pub earlier : list_any holds (earlier_than l k) ≡ false

-- ---- none holds

-- "it gives no number whose condition fails"
pub none-applies-in : (l : List Condition) → list_any holds l ≡ false → (k : ℕ) → applies_in l k ≡ false
none-applies-in [] e k = refl
none-applies-in (c ∷ l) e k = let w = or_parts c.1 (list_any holds l) e in go (eqb c.0 k) w.0 (none-applies-in l w.1 k)
  where
    go : (b : Bool) → c.1 ≡ false → applies_in l k ≡ false → cond b c.1 (applies_in l k) ≡ false
    go true a r = a
    go false a r = r

-- and by their numbers, which differ
pub none-holds : (l : List Condition) → DistinctNumbers l → ((k : ℕ) → applies_in l k ≡ false) → list_any holds l ≡ false
none-holds [] d f = refl
none-holds (c ∷ l) d f =
    let w = or_parts (list_any (eqb c.0) (numbers_of l)) (pair_in eqb (numbers_of l)) d in
    let own : c.1 ≡ false = rw (eq-eqb c.0 c.0 refl) at (f c.0) in
    rw own (none-holds l w.1 (λ k. go k (eqb c.0 k) refl (f k) w.0))
  where
    absent : (m : List Condition) (k : ℕ) → list_any (eqb k) (numbers_of m) ≡ false → applies_in m k ≡ false
    absent [] k e = refl
    absent (a ∷ m) k e = let v = or_parts (eqb k a.0) (list_any (eqb k) (numbers_of m)) e in rw (false_from_ne_true (eqb a.0 k) (λ t. true≢false (sym (eq-eqb k a.0 (sym (eqb-true a.0 k t))) ∙ v.0))) (absent m k v.1)

    go : (k : ℕ) (b : Bool) → eqb c.0 k ≡ b → cond b c.1 (applies_in l k) ≡ false → list_any (eqb c.0) (numbers_of l) ≡ false → applies_in l k ≡ false
    go k true t e n = absent l k (rw (eqb-true c.0 k t) at n)
    go k false t e n = e

-- ---- what every number of a list is, its first that holds is

pub each-listed : (p : ℕ → Bool) (ns : List ℕ) (k : ℕ) → list_any (λ (n : ℕ). not (p n)) ns ≡ false → list_any (eqb k) ns ≡ true → p k ≡ true
each-listed p [] k e h = absurd (true≢false (sym h))
each-listed p (n ∷ ns) k e h = let w = or_parts (not (p n)) (list_any (λ (n : ℕ). not (p n)) ns) e in go (eqb k n) refl (not-false (p n) w.0) h (each-listed p ns k w.1)
  where
    go : (b : Bool) → eqb k n ≡ b → p n ≡ true → b || list_any (eqb k) ns ≡ true → (list_any (eqb k) ns ≡ true → p k ≡ true) → p k ≡ true
    go true t a g r = rw (eqb-true k n t) a
    go false t a g r = r g

-- ---- what is ruled

module _ {R : Type 0} (refuse : ℕ → R) where
  -- given where its condition holds and no earlier one does
  pub first-given : (z : R) (l : List Condition) (k : ℕ) → applies_in l k ≡ true → list_any holds (earlier_than l k) ≡ false → ruled refuse z l ≡ refuse k
  first-given z [] k e f = absurd (true≢false (sym e))
  first-given z (c ∷ l) k e f = go (eqb c.0 k) refl e f (first-given z l k)
    where
      go : (b : Bool) → eqb c.0 k ≡ b → cond b c.1 (applies_in l k) ≡ true → list_any holds (cond b [] (c ∷ earlier_than l k)) ≡ false
          → (applies_in l k ≡ true → list_any holds (earlier_than l k) ≡ false → ruled refuse z l ≡ refuse k) → ruled refuse z (c ∷ l) ≡ refuse k
      go true t e f r = rw (e, eqb-true c.0 k t)
      go false t e f r = let w = or_parts c.1 (list_any holds (earlier_than l k)) f in rw w.0 (r e w.1)

  -- z where none holds
  pub none_passes : (z : R) (l : List Condition) → list_any holds l ≡ false → ruled refuse z l ≡ z
  none_passes z [] e = refl
  none_passes z (c ∷ l) e = let w = or_parts c.1 (list_any holds l) e in rw w.0 (none_passes z l w.1)

  -- only then
  pub only_none : (z y : R) → ((k : ℕ) → refuse k ≡ y → ⊥) → (l : List Condition) → ruled refuse z l ≡ y → (list_any holds l ≡ false) × (z ≡ y)
  only_none z y f [] e = (refl, e)
  only_none z y f (c ∷ l) e = go c.1 e (only_none z y f l)
    where
      go : (b : Bool) → cond b (refuse c.0) (ruled refuse z l) ≡ y → (ruled refuse z l ≡ y → (list_any holds l ≡ false) × (z ≡ y)) → (b || list_any holds l ≡ false) × (z ≡ y)
      go true e r = absurd (f c.0 e)
      go false e r = r e

  -- and a number only where its condition holds and no earlier one does
  pub only-first : (z : R) → ((a b : ℕ) → refuse a ≡ refuse b → a ≡ b) → ((k : ℕ) → refuse k ≡ z → ⊥) → (l : List Condition) → DistinctNumbers l → (k : ℕ) → ruled refuse z l ≡ refuse k → FirstHolding l k
  only-first z one other [] d k e = absurd (other k (sym e))
  only-first z one other (c ∷ l) d k e = go c.1 refl e (only-first z one other l w.1 k)
    where
      w : (list_any (eqb c.0) (numbers_of l) ≡ false) × (pair_in eqb (numbers_of l) ≡ false)
      w = or_parts (list_any (eqb c.0) (numbers_of l)) (pair_in eqb (numbers_of l)) d

      go : (b : Bool) → c.1 ≡ b → cond b (refuse c.0) (ruled refuse z l) ≡ refuse k → (ruled refuse z l ≡ refuse k → FirstHolding l k) → FirstHolding (c ∷ l) k
      go true h e i =
          let q : c.0 ≡ k = one c.0 k e in
          record { listed = rw (eq-eqb k c.0 (sym q)); holding = rw (eq-eqb c.0 k q) h; earlier = rw (eq-eqb c.0 k q) }
      go false h e i =
          let r = i e in
          let n : eqb c.0 k ≡ false = false_from_ne_true (eqb c.0 k) (λ t. true≢false (sym r.listed ∙ rw (eqb-true c.0 k t) at w.0)) in
          record { listed = rw r.listed (or-true (eqb k c.0)); holding = rw n r.holding; earlier = rw (n, h) r.earlier }

  -- a list in two parts
  pub ruled-in-two : (z : R) (a b : List Condition) → ruled refuse z (a ++ b) ≡ ruled refuse (ruled refuse z b) a
  ruled-in-two z [] b = refl
  ruled-in-two z (c ∷ a) b = ap (cond c.1 (refuse c.0)) (ruled-in-two z a b)

  -- what is ruled where none holds matters only there
  pub ruled-same-end : (z y : R) (l : List Condition) → (list_any holds l ≡ false → z ≡ y) → ruled refuse z l ≡ ruled refuse y l
  ruled-same-end z y [] f = f refl
  ruled-same-end z y (c ∷ l) f = go c.1 f (ruled-same-end z y l)
    where
      go : (b : Bool) → (b || list_any holds l ≡ false → z ≡ y) → ((list_any holds l ≡ false → z ≡ y) → ruled refuse z l ≡ ruled refuse y l) → cond b (refuse c.0) (ruled refuse z l) ≡ cond b (refuse c.0) (ruled refuse y l)
      go true f r = refl
      go false f r = r f

-- what is made of a ruling
pub ruled-through : {R S : Type 0} (g : R → S) (refuse : ℕ → R) (z : R) (l : List Condition) → g (ruled refuse z l) ≡ ruled (λ (k : ℕ). g (refuse k)) (g z) l
ruled-through g refuse z [] = refl
ruled-through g refuse z (c ∷ l) = go c.1 (ruled-through g refuse z l)
  where
    go : (b : Bool) → g (ruled refuse z l) ≡ ruled (λ (k : ℕ). g (refuse k)) (g z) l → g (cond b (refuse c.0) (ruled refuse z l)) ≡ cond b (g (refuse c.0)) (ruled (λ (k : ℕ). g (refuse k)) (g z) l)
    go true r = refl
    go false r = r

-- by the number that the code hands on
pub ruled-by-number : {R : Type 0} (refuse : ℕ → R) (z : R) (l : List Condition) → list_any (λ (n : ℕ). eqb n 0) (numbers_of l) ≡ false
    → cond (eqb (number_in l) 0) z (refuse (number_in l)) ≡ ruled refuse z l
ruled-by-number refuse z [] e = refl
ruled-by-number refuse z (c ∷ l) e = let w = or_parts (eqb c.0 0) (list_any (λ (n : ℕ). eqb n 0) (numbers_of l)) e in go c.1 w.0 (ruled-by-number refuse z l w.1)
  where
    go : (b : Bool) → eqb c.0 0 ≡ false → cond (eqb (number_in l) 0) z (refuse (number_in l)) ≡ ruled refuse z l
        → cond (eqb (cond b c.0 (number_in l)) 0) z (refuse (cond b c.0 (number_in l))) ≡ cond b (refuse c.0) (ruled refuse z l)
    go true n r = rw n
    go false n r = r
