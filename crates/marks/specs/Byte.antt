-- The byte of marks. Each filter sets its bit in the bytes of those that it marks, and sees the bytes that the filters before it left: a point
-- is dropped where its byte is not 0. Assumes nothing.
use Rattle.std.specs.Prelude.{Bool, cond, List, [], ◌∷◌, ℕ, ◌+◌, ◌/◌, ◌%◌, ◌^◌, eqb, get_or}
use Rattle.folds.specs.Below.{first}
use Rattle.folds.specs.Column.{column}
use Rattle.view.specs.View.{max_points}
use Rattle.marks.specs.Filters.{filter_at, filter_count}

-- filter f has marked a point with the byte m
abbrev pub has_mark : ℕ → ℕ → Bool
has_mark f m = eqb (m / 2 ^ (filter_at f).bit % 2) 1

-- the byte m with the bit of filter f set
abbrev pub with_mark : ℕ → ℕ → ℕ
with_mark f m = cond (has_mark f m) m (m + 2 ^ (filter_at f).bit)

-- the bytes of n points after filter f has marked those that the test t names
unfoldable pub marked_by : ℕ → ℕ → (ℕ → Bool) → List ℕ → List ℕ
unfolding column
marked_by n f t marks = column max_points 0 n (λ (k : ℕ). cond (t k) (with_mark f (get_or marks k 0)) (get_or marks k 0))

-- a filter and whom it marks, given the bytes before it
pub record Marking : Type 0 where
  pub filter : ℕ
  pub marks : List ℕ → ℕ → Bool

-- the bytes of n points after filters that run one after the other
unfoldable pub marked_by_all : ℕ → List Marking → List ℕ → List ℕ
unfolding marked_by
marked_by_all n [] marks = marks
marked_by_all n (g ∷ l) marks = marked_by_all n l (marked_by n g.filter (g.marks marks) marks)

-- "the first filter that marks its index": filter_count where none does
unfoldable pub first_mark : ℕ → ℕ
unfolding first
first_mark m = first (λ (f : ℕ). has_mark f m) 0 filter_count
