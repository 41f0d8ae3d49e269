-- The answer is the same in whatever order a round visits its points. Assumes nothing.
use Rattle.std.specs.List.{list_any, fold}
use mathlib.Core.Path.{◌≡◌, refl, sym, ap, ◌∙◌, fun_ext}
use mathlib.Core.Bool.{Bool, true, false, cond, ◌&&◌, ◌||◌, false≢true}
use mathlib.Core.Logic.{⊎_elim}
use mathlib.Core.List.{List, [], ◌∷◌}
use Prim.{yes, no}
use Prim.Native.Nat.{ℕ, zero, suc, ◌<◌}
use native.Mathlib.Decide.{ℕ_discrete}
use native.Mathlib.Omega.{arith}
use borrow.Author.Tests.{eq-eqb, eqb-true, ne_eqb}
use lib.Dec.{eqb}
use lib.ListN.{length, get_or, set, replicate, length-set, length-replicate}
use lib.Seq.{get_or-set_same, get_or-set_other}
use Rattle.folds.proofs.Below.{some-yes, some_at}
use Rattle.folds.proofs.Lists.{length-list, list_at, is-list}
use Rattle.folds.proofs.Column.{replicate-at}
use Rattle.folds.specs.Marked.{bit}
use Rattle.folds.proofs.Marked.{bit_is}
use Rattle.view.specs.View.{View}
use Rattle.marks.specs.Marks.{is_set}
use Rattle.peel.specs.Peel.{goes, gone_after, peeled_in, leaf_of, peeled_of}
use Rattle.peel.specs.Theorems.{Placed, visit, round_by, gone_by, peeled_by, HasEach}
use Rattle.peel.proofs.Rounds.{Ends}
use Rattle.peel.proofs.Theorems.{known}
use Rattle.std.proofs.Math.Bool.{or-true}
use Rattle.std.proofs.lemmas.Bool.{and_parts, or_cases}
use Rattle.std.specs.Cmp.{both_ways}

-- where some element passes, one does
any-one : (t : ℕ → Bool) (l : List ℕ) → list_any t l ≡ true → (k : ℕ) × (t k ≡ true)
any-one t [] e = absurd (false≢true e)
any-one t (a ∷ l) e = ⊎_elim (λ (h : t a ≡ true). (a, h)) (any-one t l) (or_cases (t a) (list_any t l) e)

-- an element that passes
any_of : (t : ℕ → Bool) (k : ℕ) (l : List ℕ) → list_any (eqb k) l ≡ true → t k ≡ true → list_any t l ≡ true
any_of t k [] e h = absurd (false≢true e)
any_of t k (a ∷ l) e h = ⊎_elim (λ (q : eqb k a ≡ true). rw (← eqb-true k a q, h)) (λ (q : list_any (eqb k) l ≡ true). rw (any_of t k l q h) (or-true (t a))) (or_cases (eqb k a) (list_any (eqb k) l) e)

module _ (n : ℕ) (by_idx : ℕ → ℕ) (ends : (ℕ → Bool) → ℕ → Bool) where
  -- a visited end has the index at place b
  abbrev hits : List ℕ → ℕ → ℕ → Bool
  hits g b k = ends (is_set g) k && eqb (by_idx k) b

  visit-long : (g a : List ℕ) (k : ℕ) → length (visit n by_idx ends g a k) ≡ length a
  visit-long g a k = go (ends (is_set g) k)
    where
      go : (t : Bool) → length (cond t (set a (by_idx k) 1) a) ≡ length a
      go true = length-set a (by_idx k) 1
      go false = refl

  over-long : (g a visits : List ℕ) → length (fold (visit n by_idx ends g) a visits) ≡ length a
  over-long g a [] = refl
  over-long g a (k ∷ l) = over-long g (visit n by_idx ends g a k) l ∙ visit-long g a k

  over-at : (g a visits : List ℕ) (b : ℕ) → b < length a → get_or (fold (visit n by_idx ends g) a visits) b 0 ≡ cond (list_any (hits g b) visits) 1 (get_or a b 0)
  over-at g a [] b h = refl
  over-at g a (k ∷ l) b h = over-at g (visit n by_idx ends g a k) l b (omega (arith, visit-long g a k)) ∙ go (ends (is_set g) k) (list_any (hits g b) l)
    where
      set_at : get_or (set a (by_idx k) 1) b 0 ≡ cond (eqb (by_idx k) b) 1 (get_or a b 0)
      set_at = elim (ℕ_discrete (by_idx k) b) [
        | yes d ↦ rw (d, get_or-set_same a b 1 0 h, eq-eqb b b refl)
        | no f ↦ rw (get_or-set_other a (by_idx k) b 1 0 (λ z. f (sym z)), ne_eqb (by_idx k) b f)
      ]

      twice : (e t : Bool) → cond t 1 (cond e 1 (get_or a b 0)) ≡ cond (e || t) 1 (get_or a b 0)
      twice true true = refl
      twice true false = refl
      twice false t = refl

      go : (s t : Bool) → cond t 1 (get_or (cond s (set a (by_idx k) 1) a) b 0) ≡ cond ((s && eqb (by_idx k) b) || t) 1 (get_or a b 0)
      go true t = rw set_at (twice (eqb (by_idx k) b) t)
      go false t = refl

  gone_long : (r : ℕ) → length (gone_after n by_idx ends r) ≡ n
  unfolding gone_after
  gone_long zero = length-replicate {A = ℕ} n 0
  gone_long (suc r) = length-list n _

  gone-bit : (r b : ℕ) → b < n → get_or (gone_after n by_idx ends r) b 0 ≡ bit (is_set (gone_after n by_idx ends r) b)
  unfolding gone_after
  gone-bit zero b h = let z : get_or {A = ℕ} (replicate n 0) b 0 ≡ 0 = replicate-at n 0 b in rw z
  gone-bit (suc r) b h =
      let e = list_at n (λ (b : ℕ). bit (is_set (gone_after n by_idx ends r) b || goes n by_idx ends (is_set (gone_after n by_idx ends r)) b)) b 0 h in
      e ∙ sym (ap (λ (m : ℕ). bit (eqb m 1)) e ∙ ap bit (bit_is (is_set (gone_after n by_idx ends r) b || goes n by_idx ends (is_set (gone_after n by_idx ends r)) b)))

  module _ (is : Ends n by_idx ends) where
    any-goes : (g visits : List ℕ) (b : ℕ) → HasEach n visits → list_any (hits g b) visits ≡ goes n by_idx ends (is_set g) b
    any-goes g visits b each =
        both_ways (list_any (hits g b) visits) (goes n by_idx ends (is_set g) b)
        (λ e. let w = any-one (hits g b) visits e in some-yes (hits g b) n w.0 (is.rank (is_set g) w.0 (and_parts (ends (is_set g) w.0) _ w.1).0) w.1)
        (λ e. let w = some_at (hits g b) n e in any_of (hits g b) w.0 visits (each w.0 w.1) w.2)

    -- a round by visits to each rank is a round
    round_same : (visits : List ℕ) → HasEach n visits → (r : ℕ) → round_by n by_idx ends visits (gone_after n by_idx ends r) ≡ gone_after n by_idx ends (suc r)
    unfolding round_by gone_after
    round_same visits each r =
        let g = gone_after n by_idx ends r in
        is-list 0 n _ (fold (visit n by_idx ends g) g visits) (over-long g g visits ∙ gone_long r) (λ b h.
        over-at g g visits b (omega (arith, gone_long r))
        ∙ ap (λ (m : ℕ). cond (list_any (hits g b) visits) 1 m) (gone-bit r b h)
        ∙ ap (λ (t : Bool). cond t 1 (bit (is_set g b))) (any-goes g visits b each)
        ∙ marked (is_set g b) (goes n by_idx ends (is_set g) b))
      where
        marked : (s t : Bool) → cond t 1 (bit s) ≡ bit (s || t)
        marked true true = refl
        marked true false = refl
        marked false true = refl
        marked false false = refl

    rounds-same : (orders : ℕ → List ℕ) → ((r : ℕ) → HasEach n (orders r)) → (r : ℕ) → gone_by n by_idx ends orders r ≡ gone_after n by_idx ends r
    unfolding gone_by gone_after
    rounds-same orders each zero = refl
    rounds-same orders each (suc r) = ap (round_by n by_idx ends (orders r)) (rounds-same orders each r) ∙ round_same (orders r) (each r) r

-- THEOREM: "the answer is the same in whatever order a round visits its points"
pub order-free : (w : View) (sides dropped weak : List ℕ) → Placed w → (orders : ℕ → List ℕ) → ((r : ℕ) → HasEach w.count (orders r)) → peeled_by orders w sides dropped weak ≡ peeled_of w sides dropped weak
unfolding peeled_by
order-free w sides dropped weak placed orders each =
    ap (peeled_in w.count w.by_idx (leaf_of w sides dropped weak)) (fun_ext (rounds-same w.count w.by_idx (leaf_of w sides dropped weak) (known w sides dropped weak placed) orders each))
