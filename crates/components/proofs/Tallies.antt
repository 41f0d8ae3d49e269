-- Laws of sizes and of the first of the largest. Assumes nothing.
use mathlib.Core.Path.{◌≡◌, refl, ◌∙◌}
use mathlib.Core.Bool.{Bool, true, false, cond}
use mathlib.Core.List.{List}
use Prim.Native.Nat.{ℕ, zero, suc, ◌+◌, ◌≤◌}
use native.Mathlib.Numerals.{add-one}
use native.Mathlib.Omega.{arith}
use lib.Dec.{eqb, ltb}
use lib.ListN.{get_or}
use Rattle.folds.specs.Below.{fold, turn, tally}
use Rattle.folds.proofs.Column.{column-ext}
use Rattle.folds.specs.Scattered.{one_more}
use Rattle.folds.proofs.Scattered.{fold-tally}
use Rattle.view.specs.View.{max_points}
use Rattle.patches.proofs.Gathering.{AtLabels, labels-column}
use Rattle.components.specs.Components.{sizes_of, largest_at}

pub largest-none : (l : List ℕ) → largest_at l 0 ≡ 0
unfolding largest_at
largest-none l = refl

-- one number more, where b tells whether it is above the largest so far
pub largest-then : (l : List ℕ) (i : ℕ) {r r' : ℕ} {b : Bool} → r' ≡ cond b i r → b ≡ ltb (get_or l r 0) (get_or l i 0) → r ≡ largest_at l i → r' ≡ largest_at l (i + 1)
unfolding largest_at
largest-then l i e f g = rw (add-one i, e, f, g) refl

pub largest-le : (l : List ℕ) (i : ℕ) → largest_at l i ≤ i
unfolding largest_at
largest-le l zero = omega arith
largest-le l (suc i) = go (ltb (get_or l (largest_at l i) 0) (get_or l i 0)) (largest-le l i)
  where
    go : (b : Bool) → largest_at l i ≤ i → cond b i (largest_at l i) ≤ suc i
    go true h = omega arith
    go false h = omega arith

pub sizes-are : (labels : List ℕ) (n : ℕ) (a : List ℕ) → n ≤ max_points → AtLabels 0 labels n one_more n a → a ≡ sizes_of n labels
unfolding sizes_of
sizes-are labels n a few t =
    labels-column 0 labels n one_more a few t
    ∙ column-ext max_points 0 n (λ (s : ℕ). fold (turn (λ (k : ℕ). eqb (get_or labels k 0) s) one_more) 0 n) (λ (s : ℕ). tally (λ (k : ℕ). eqb (get_or labels k 0) s) n)
    (λ s h. omega (arith, fold-tally (λ (k : ℕ). eqb (get_or labels k 0) s) 0 n))
