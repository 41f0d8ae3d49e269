-- "From now on the tally counts indices": each index once, kept or under the first filter that marks it. Assumes nothing.
use Rattle.std.specs.Prelude.{Bool, ◌&&◌, List, ℕ, ◌+◌, eqb, get_or}
use Rattle.folds.specs.Below.{tally}
use Rattle.folds.specs.Lists.{list_of}
use Rattle.view.specs.View.{View}
use Rattle.marks.specs.Filters.{filter_count}
use Rattle.marks.specs.Byte.{first_mark}

-- a byte of marks is counted under filter f; under filter_count, as kept
abbrev pub is_under : ℕ → ℕ → Bool
is_under f m = eqb (first_mark m) f

module _ (w : View) where
  -- rank k is the place of its index: each index has one
  abbrev pub is_place : ℕ → Bool
  is_place k = eqb (w.by_idx k) k

  module _ (marks : List ℕ) where
    -- how many indices are counted under filter f: "A repeated index is one corner on paper". Its cells share their marks.
    unfoldable pub count_under : ℕ → ℕ
    unfolding tally first_mark
    count_under f = tally (λ (k : ℕ). is_under f (get_or marks k 0) && is_place k) w.count

    -- of each filter, in the order of the table, and of the indices kept
    unfoldable pub counts_of : List ℕ
    unfolding list_of count_under
    counts_of = list_of (filter_count + 1) count_under
