-- Marks of points, 0 or 1 at each rank of an array, and marks of indices. Assumes nothing.
use Rattle.std.specs.Prelude.{Bool, false, ◌&&◌, List, ℕ, Option, None, Some, eqb, get_or}
use Rattle.folds.specs.Below.{some}
use Rattle.folds.specs.Column.{column}
use Rattle.folds.specs.Marked.{bit}
use Rattle.view.specs.View.{View, max_points, index_has}

-- the mark at place k is set
abbrev pub is_set : List ℕ → ℕ → Bool
is_set mark k = eqb (get_or mark k 0) 1

-- m is the place, if there is one
abbrev pub is_at : Option ℕ → ℕ → Bool
is_at None m = false
is_at (Some k) m = eqb k m

-- the index with its place at m has a marked point
abbrev pub place_has : View → List ℕ → ℕ → Bool
place_has w mark m = some (λ (k : ℕ). is_set mark k && eqb (w.by_idx k) m) w.count

-- marks of points as marks of indices: at each rank, whether some point with its index is marked
unfoldable pub index_marks : View → List ℕ → List ℕ
unfolding column some
index_marks w mark = column max_points 0 w.count (λ (k : ℕ). bit (index_has w (is_set mark) k))
