-- Weak ends of a patch, peeled in rounds, over any list of offsets: which points are ends, which indices have gone after each round, how many
-- rounds removed something, and the marks. near is the table of neighbours, by_idx k the place of rank k's index, sides the places of the offsets
-- that lead over a shared edge. A state says of the place of each index whether the index has gone. Each definition computes. Assumes nothing.
use Rattle.std.specs.Prelude.{Bool, not, ◌&&◌, ◌||◌, List, eqb, length}
use Prim.Native.Nat.{ℕ, zero, suc, ◌+◌, ◌*◌}
use Rattle.std.proofs.Math.Dec.{ltb}
use Rattle.std.proofs.Math.ListN.{get_or, replicate}
use Rattle.folds.specs.Below.{some, tally, first}
use Rattle.folds.specs.Lists.{list_of}
use Rattle.folds.specs.Column.{column}
use Rattle.folds.specs.Marked.{bit}
use Rattle.view.specs.View.{View, max_points}
use Rattle.marks.specs.Marks.{is_set}
use Rattle.patches.specs.Patches.{survives}
use Rattle.peel.specs.declared.Peeled.{Peeled}

-- ---- ends, in the state `gone`

-- "a live point": one that the earlier filters left and whose index has not gone
abbrev pub live : (ℕ → Bool) → (ℕ → ℕ) → (ℕ → Bool) → ℕ → Bool
live alive by_idx gone k = alive k && not (gone (by_idx k))

module _ (alive : ℕ → Bool) (near by_idx : ℕ → ℕ) (sides : List ℕ) where
  -- how many neighbours over a shared edge are live
  unfoldable pub live_sides : (ℕ → Bool) → ℕ → ℕ
  unfolding tally
  live_sides gone k = tally (λ (i : ℕ). live alive by_idx gone (near (25 * k + get_or sides i 0))) (length sides)

  -- "a live point whose strength is below it (strictly) and that has at most one live neighbour over a shared edge, none included"
  unfoldable pub leaf : (ℕ → Bool) → (ℕ → Bool) → ℕ → Bool
  unfolding live_sides
  leaf weak gone k = live alive by_idx gone k && (weak k && ltb (live_sides gone k) 2)

-- ---- rounds, for any test of ends

abbrev pub peeled : List ℕ → ℕ → Peeled
peeled marks rounds = record { marks = marks; rounds = rounds }

module _ (n : ℕ) (by_idx : ℕ → ℕ) (ends : (ℕ → Bool) → ℕ → Bool) where
  -- "loses its index": the index at place b has such an end
  abbrev pub goes : (ℕ → Bool) → ℕ → Bool
  goes gone b = some (λ (k : ℕ). ends gone k && eqb (by_idx k) b) n

  -- "A round looks at the state at its start; an index goes at all its cells if one of them is such an end": the marks of the indices that
  -- have gone after r rounds, each at the place of its index
  unfoldable pub gone_after : ℕ → List ℕ
  unfolding list_of some
  gone_after zero = replicate n 0
  gone_after (suc r) = let g = gone_after r in list_of n (λ (b : ℕ). bit (is_set g b || goes (is_set g) b))

  module _ (after : ℕ → List ℕ) where
    -- after r rounds no index goes any more
    abbrev pub ended : ℕ → Bool
    ended r = not (some (ends (is_set (after r))) n)

    -- "`rounds` is the number of rounds that removed something": the first state from which none goes (there are at most n indices)
    unfoldable pub rounds_in : ℕ
    unfolding first some
    rounds_in = first ended 0 n

    -- the mark of each rank: whether its index has gone in the end
    unfoldable pub peeled_in : Peeled
    unfolding rounds_in column
    peeled_in = peeled (column max_points 0 n (λ (k : ℕ). bit (is_set (after rounds_in) (by_idx k)))) rounds_in

-- ---- of a view: dropped has 0 at each rank that the earlier filters left, weak 1 at each rank whose strength is below the threshold

module _ (w : View) (sides dropped weak : List ℕ) where
  abbrev pub leaf_of : (ℕ → Bool) → ℕ → Bool
  leaf_of = leaf (survives w.count dropped) w.near w.by_idx sides (is_set weak)

  abbrev pub gone_of : ℕ → List ℕ
  gone_of = gone_after w.count w.by_idx leaf_of

  abbrev pub peeled_of : Peeled
  peeled_of = peeled_in w.count w.by_idx leaf_of gone_of
