-- Eight equations. "The source's eight equations are solved by elimination over eight rows of eight with their right side: pivot of largest
-- magnitude, first of equals; an all-zero column is passed over; multiplier = entry times 1/pivot; columnwise substitution. A zero diagonal
-- .. means no fit." Assumes nothing.
use Rattle.std.specs.Prelude.{ℕ, ◌+◌, Bool, true, cond, List, set, ltb, Float, Option, Some, None}
use Rattle.std.specs.Int.Count.{count_trailing_zeros}
use Rattle.std.specs.Float.Ieee.{add, sum, sub, mul, div, neg, lt, eq, of_bits, odd, round, units, size, span, climb}
use Rattle.folds.specs.Arith.{◌⊕◌, ◌⊗◌, ◌⊘◌, zero_f}
use Rattle.folds.specs.Run.{run, up_to, down}
use Rattle.folds.specs.Below.{some, first}
use Rattle.float.specs.Constants.{one}
use Rattle.float.specs.Scalar.{abs_of}
use Rattle.linear.specs.Rows.{entry_at, matrix_row, entry, with_entry}
use Rattle.linear.specs.declared.System.{System}

-- ---- "pivot of largest magnitude, first of equals"

-- whether the entry of column i in row k is larger than that in the best row so far
abbrev pub larger_than : List (List Float) → ℕ → ℕ → ℕ → Bool
larger_than m i best k = lt (abs_of (entry m best i)) (abs_of (entry m k i))

-- the row of the larger of the two
unfoldable pub better_row : List (List Float) → ℕ → ℕ → ℕ → ℕ
better_row m i k best = cond (larger_than m i best k) k best

-- a row's number, if there is such a row
abbrev pub row_below : ℕ → Option ℕ
row_below k = cond (ltb k 8) (Some k) None

-- the first row below row `best` with a larger entry
unfoldable pub next_larger : List (List Float) → ℕ → ℕ → Option ℕ
next_larger m i best = row_below (first (larger_than m i best) (best + 1) 8)

-- the row of column i's pivot, of the rows from i on
unfoldable pub pivot_row : List (List Float) → ℕ → ℕ
pivot_row m i = run (better_row m i) (i + 1) 8 i

-- ---- elimination: below the diagonal the multipliers take the place of the zeros

-- rows i and k exchanged, and entries i and k of the right side
abbrev pub swap_rows : List (List Float) → ℕ → ℕ → List (List Float)
swap_rows m i k = set (set m k (matrix_row m i)) i (matrix_row m k)

abbrev pub swap_entries : List Float → ℕ → ℕ → List Float
swap_entries b i k = set (set b k (entry_at b i)) i (entry_at b k)

-- entry j of row k, less the multiplier t times that of the pivot's row p
unfoldable pub reduce_entry : List Float → ℕ → Float → ℕ → List (List Float) → List (List Float)
reduce_entry p k t j m = with_entry m k j (entry m k j ⊕ neg (entry_at p j) ⊗ t)

-- "multiplier = entry times 1/pivot": row k, where p is the pivot's row of column i and inverse is 1 over the pivot
unfoldable pub reduce_row : List Float → ℕ → Float → ℕ → List (List Float) → List (List Float)
reduce_row p i inverse k m =
    let t = entry m k i ⊗ inverse in
    run (reduce_entry p k t) (i + 1) 8 (with_entry m k i t)

unfoldable pub reduce_rows : List Float → ℕ → Float → List (List Float) → List (List Float)
reduce_rows p i inverse m = run (reduce_row p i inverse) (i + 1) 8 m

-- column i, where row k has its pivot: "an all-zero column is passed over"
unfoldable pub eliminate_by : ℕ → ℕ → System → System
eliminate_by k i s =
    let p = matrix_row s.rows k in
    cond (eq (entry_at p i) zero_f)
    s
    (record { rows = reduce_rows p i (one ⊘ entry_at p i) (swap_rows s.rows i k); right = swap_entries s.right i k })

unfoldable pub eliminate_column : ℕ → System → System
eliminate_column i s = eliminate_by (pivot_row s.rows i) i s

-- ---- "columnwise substitution"

-- entry k of the right side, less t times entry i of row k
unfoldable pub less_entry : List (List Float) → ℕ → Float → ℕ → List Float → List Float
less_entry m i t k b = set b k (entry_at b k ⊕ neg t ⊗ entry m k i)

-- by the multipliers, column 0 first
unfoldable pub forward_column : List (List Float) → ℕ → List Float → List Float
forward_column m i b = run (less_entry m i (entry_at b i)) (i + 1) 8 b

unfoldable pub forward_by : List (List Float) → List Float → List Float
forward_by m b = run (forward_column m) 0 8 b

-- by the entries from the diagonal on, column 7 first
unfoldable pub backward_column : List (List Float) → ℕ → List Float → List Float
backward_column m i b =
    let t = entry_at b i ⊘ entry m i i in
    run (less_entry m i t) 0 i (set b i t)

unfoldable pub backward_by : List (List Float) → List Float → List Float
backward_by m b = down (backward_column m) 8 b

-- "A zero diagonal .. means no fit."
abbrev pub zero_at : List (List Float) → ℕ → Bool
zero_at m i = eq (entry m i i) zero_f

unfoldable pub zero_diagonal : List (List Float) → Bool
zero_diagonal m = some (zero_at m) 8

unfoldable pub substituted : System → Option (List Float)
substituted s = cond (zero_diagonal s.rows) None (Some (backward_by s.rows (forward_by s.rows s.right)))

-- the equations m x = b after elimination
unfoldable pub eliminated : List (List Float) → List Float → System
eliminated m b = run eliminate_column 0 8 (record { rows = m; right = b })

-- the x with m x = b, if there is one
unfoldable pub solution_of : List (List Float) → List Float → Option (List Float)
solution_of m b = substituted (eliminated m b)

-- This name on an `unfolding` line opens every definition that a solution computes by.
unfoldable pub solution-computes : Bool
unfolding add sum sub mul div neg lt eq of_bits odd round units size span climb count_trailing_zeros abs_of some run up_to down better_row pivot_row reduce_entry reduce_row reduce_rows eliminate_by eliminate_column less_entry forward_column forward_by backward_column backward_by zero_diagonal substituted eliminated solution_of
solution-computes = true
