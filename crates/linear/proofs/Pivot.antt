-- The pivot is the first entry of largest magnitude at or below the diagonal. Assumes nothing.
use mathlib.Core.Bool.{Bool, true, false, cond, true≢false}
use mathlib.Core.List.{List}
use mathlib.Core.Logic.{⊎_elim}
use mathlib.Core.Path.{◌≡◌, refl, sym, ◌∙◌}
use Prim.Native.Nat.{ℕ, zero, suc, ◌+◌, ◌-◌, ◌≤◌, ◌<◌}
use native.Mathlib.Nat.{eq-or-lt_of_le, le_refl}
use native.Mathlib.Omega.{arith}
use lib.Dec.{ltb}
use lib.Ieee.{Float, lt, le}
use borrow.Author.Tests.{lt-ltb, le-ltb}
use Rattle.std.proofs.Common.{Some, None}
use Rattle.folds.specs.Below.{first, first_in}
use Rattle.folds.proofs.Below.{first_more, first-from, first-end}
use Rattle.folds.specs.Run.{run, up_to}
use Rattle.folds.proofs.Run.{run-keeps}
use Rattle.float.specs.Scalar.{abs_of, magnitude_of}
use Rattle.float.proofs.Order.{below-through, not-below-itself, below-at-most}
use Rattle.float.proofs.Signless.{by-magnitude}
use Rattle.linear.specs.Rows.{entry}
use Rattle.linear.specs.Linear.{larger_than, better_row, next_larger, pivot_row}
use Rattle.std.proofs.lemmas.Bool.{false_from_ne_true}

-- ---- the search by larger entries

module _ (m : List (List Float)) (i best k : ℕ) {largest size : Float} (h : k < 8) (p : largest ≡ magnitude_of (entry m best i)) (q : size ≡ magnitude_of (entry m k i)) where
  pub next-found : lt largest size ≡ true → k ≡ first (larger_than m i best) k 8
  next-found e = sym (first_more (larger_than m i best) k 8 h ∙ rw (← by-magnitude (entry m best i) (entry m k i), ← p, ← q, e))

  pub next-passed : lt largest size ≡ false → first (larger_than m i best) (k + 1) 8 ≡ first (larger_than m i best) k 8
  next-passed e = sym (first_more (larger_than m i best) k 8 h ∙ rw (← by-magnitude (entry m best i) (entry m k i), ← p, ← q, e))

-- the pivot's row, where k is the next row with a larger entry than row best's, or 8
abbrev searched : List (List Float) → ℕ → ℕ → ℕ → ℕ
searched m i best k = cond (ltb k 8) (run (better_row m i) (k + 1) 8 k) best

up_to-next : (m : List (List Float)) (i best n from : ℕ) → from + n ≡ 8 → up_to (better_row m i) n from best ≡ searched m i best (first_in (larger_than m i best) n from)
unfolding up_to first_in better_row run
up_to-next m i best zero from e = sym (rw (le-ltb from 8 (omega arith)))
up_to-next m i best (suc n) from e = go (larger_than m i best from) (up_to-next m i best n (from + 1) (omega arith))
  where
    go : (t : Bool) → up_to (better_row m i) n (from + 1) best ≡ searched m i best (first_in (larger_than m i best) n (from + 1))
        → up_to (better_row m i) n (from + 1) (cond t from best) ≡ searched m i best (cond t from (first_in (larger_than m i best) n (from + 1)))
    go true h = let l : n ≡ 8 - (from + 1) = omega arith in rw (lt-ltb from 8 (omega arith), l)
    go false h = h

search-next : (m : List (List Float)) (i best from : ℕ) → from ≤ 8 → run (better_row m i) from 8 best ≡ searched m i best (first (larger_than m i best) from 8)
unfolding run first
search-next m i best from h = up_to-next m i best (8 - from) from (omega arith)

module _ (m : List (List Float)) (i best : ℕ) where
  pub search-goes-on : (k : ℕ) → best < 8 → next_larger m i best ≡ Some k → run (better_row m i) (best + 1) 8 best ≡ run (better_row m i) (k + 1) 8 k
  unfolding next_larger
  search-goes-on k h e = search-next m i best (best + 1) (omega arith) ∙ go (ltb n 8) e
    where
      n : ℕ
      n = first (larger_than m i best) (best + 1) 8

      go : (t : Bool) → cond t (Some n) None ≡ Some k → cond t (run (better_row m i) (n + 1) 8 n) best ≡ run (better_row m i) (k + 1) 8 k
      go true q = let z : n ≡ k = cc in rw z
      go false q = cc

  pub search-ends : best < 8 → next_larger m i best ≡ None → run (better_row m i) (best + 1) 8 best ≡ best
  unfolding next_larger
  search-ends h e = search-next m i best (best + 1) (omega arith) ∙ go (ltb n 8) e
    where
      n : ℕ
      n = first (larger_than m i best) (best + 1) 8

      go : (t : Bool) → cond t (Some n) None ≡ None → cond t (run (better_row m i) (n + 1) 8 n) best ≡ best
      go true q = cc
      go false q = refl

  pub next-after : (k : ℕ) → next_larger m i best ≡ Some k → best < k
  unfolding next_larger
  next-after k e = go (first (larger_than m i best) (best + 1) 8) (ltb _ 8) (first-from (larger_than m i best) (best + 1) 8) e
    where
      go : (n : ℕ) (t : Bool) → best + 1 ≤ n → cond t (Some n) None ≡ Some k → best < k
      go n true l q = let z : n ≡ k = cc in omega arith
      go n false l q = cc

pub ruleset searching = (search-goes-on, search-ends, next-after)

pub ruleset passing = (next-found, next-passed, first-end, lt-ltb, le-ltb)

-- ---- the search

-- of the places from i on and below n, p is the first whose value has the largest magnitude: none is larger, and none before it is as large
pub record FirstLargest (value : ℕ → Float) (i n p : ℕ) : Type 0 where
  pub start : i ≤ p
  pub inside : p < n
  pub largest : (k : ℕ) → i ≤ k → k < n → lt (abs_of (value p)) (abs_of (value k)) ≡ false
  pub earliest : (k : ℕ) → i ≤ k → k < p → le (abs_of (value p)) (abs_of (value k)) ≡ false

module _ (value : ℕ → Float) (i : ℕ) where
  alone : FirstLargest value i (i + 1) i
  alone = record { start = le_refl i; inside = omega arith; largest = λ k a b. let e : k ≡ i = omega arith in rw e (not-below-itself (value i)); earliest = λ k a b. absurd (omega arith) }

  stays : (k p : ℕ) → FirstLargest value i k p → lt (abs_of (value p)) (abs_of (value k)) ≡ false → FirstLargest value i (k + 1) p
  stays k p f e = record {
    start = f.start;
    inside = omega (arith, f.inside);
    largest = λ j a b. ⊎_elim (λ (q : j ≡ k). rw q e) (λ (q : j < k). f.largest j a q) (eq-or-lt_of_le (omega arith));
    earliest = f.earliest;
  }

  -- what is at least as large as k's would be larger than p's
  moves : (k p : ℕ) → FirstLargest value i k p → lt (abs_of (value p)) (abs_of (value k)) ≡ true → FirstLargest value i (k + 1) k
  moves k p f e = record {
    start = omega (arith, f.start, f.inside);
    inside = omega arith;
    largest = λ j a b.
        ⊎_elim (λ (q : j ≡ k). rw q (not-below-itself (value k)))
        (λ (q : j < k). false_from_ne_true (lt (abs_of (value k)) (abs_of (value j))) (λ t. smaller j a q (below-at-most (abs_of (value k)) (abs_of (value j)) t)))
        (eq-or-lt_of_le (omega arith));
    earliest = λ j a q. false_from_ne_true (le (abs_of (value k)) (abs_of (value j))) (smaller j a q);
  }
    where
      smaller : (j : ℕ) → i ≤ j → j < k → le (abs_of (value k)) (abs_of (value j)) ≡ true → ⊥
      smaller j a q t = true≢false (sym (below-through (value p) (value k) (value j) e t) ∙ f.largest j a q)

-- "pivot of largest magnitude, first of equals"
pub pivot-first-largest : (m : List (List Float)) (i : ℕ) → i < 8 → FirstLargest (λ (k : ℕ). entry m k i) i 8 (pivot_row m i)
unfolding pivot_row better_row
pivot-first-largest m i h =
    run-keeps (FirstLargest value i) (better_row m i) (i + 1) 8 i (omega arith) (alone value i)
    (λ k a b p f. go k p f (lt (abs_of (value p)) (abs_of (value k))) refl)
  where
    value : ℕ → Float
    value k = entry m k i

    go : (k p : ℕ) → FirstLargest value i k p → (t : Bool) → lt (abs_of (value p)) (abs_of (value k)) ≡ t → FirstLargest value i (k + 1) (cond t k p)
    go k p f true e = moves value i k p f e
    go k p f false e = stays value i k p f e
