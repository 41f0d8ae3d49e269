-- What the theorems on weak ends say. Assumes nothing.
use Rattle.std.specs.List.{list_any, fold}
use Rattle.std.specs.Prelude.{◌≡◌, Bool, true, cond, not, ◌&&◌, List, eqb, length, get_or, set}
use Prim.Native.Nat.{ℕ, zero, suc, ◌+◌, ◌*◌, ◌<◌}
use Rattle.std.proofs.Math.ListN.{replicate}
use Rattle.folds.specs.Below.{tally}
use Rattle.view.specs.View.{View}
use Rattle.marks.specs.Marks.{is_set}
use Rattle.patches.specs.Patches.{survives}
use Rattle.peel.specs.Peel.{peeled_in, leaf_of, gone_of}
use Rattle.peel.specs.declared.Peeled.{Peeled}

-- what is asked of a view: the place of an index is a rank
abbrev pub Placed : View → Type 0
Placed w = (k : ℕ) → k < w.count → w.by_idx k < w.count

-- ---- what is left

-- rank k is a point that neither the earlier filters nor the peel marked
abbrev pub left : View → List ℕ → List ℕ → ℕ → Bool
left w dropped marks k = survives w.count dropped k && not (is_set marks k)

-- how many neighbours over a shared edge are left
abbrev pub left_sides : View → List ℕ → List ℕ → List ℕ → ℕ → ℕ
left_sides w sides dropped marks k = tally (λ (i : ℕ). left w dropped marks (w.near (25 * k + get_or sides i 0))) (length sides)

-- ---- how many are removed

-- the indices that have gone after r rounds, each counted at its place
abbrev pub gone_count : View → List ℕ → List ℕ → List ℕ → ℕ → ℕ
gone_count w sides dropped weak r = tally (is_set (gone_of w sides dropped weak r)) w.count

-- ---- "the answer is the same in whatever order a round visits its points"

module _ (n : ℕ) (by_idx : ℕ → ℕ) (ends : (ℕ → Bool) → ℕ → Bool) where
  -- a visit to rank k: if it is an end in the state g, its index is marked
  abbrev pub visit : List ℕ → List ℕ → ℕ → List ℕ
  visit g marks k = cond (ends (is_set g) k) (set marks (by_idx k) 1) marks

  -- a round that visits ranks one after the other, each in the state at the round's start
  unfoldable pub round_by : List ℕ → List ℕ → List ℕ
  round_by visits g = fold (visit g) g visits

  -- after r rounds, where each visits ranks in an order of its own
  unfoldable pub gone_by : (ℕ → List ℕ) → ℕ → List ℕ
  unfolding round_by
  gone_by orders zero = replicate n 0
  gone_by orders (suc r) = round_by (orders r) (gone_by orders r)

unfoldable pub peeled_by : (ℕ → List ℕ) → View → List ℕ → List ℕ → List ℕ → Peeled
unfolding peeled_in gone_by
peeled_by orders w sides dropped weak = peeled_in w.count w.by_idx (leaf_of w sides dropped weak) (gone_by w.count w.by_idx (leaf_of w sides dropped weak) orders)

-- the list has each rank below n, in any order, and may have some more than once
abbrev pub HasEach : ℕ → List ℕ → Type 0
HasEach n visits = (k : ℕ) → k < n → list_any (eqb k) visits ≡ true
