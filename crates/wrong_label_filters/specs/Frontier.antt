-- "An end of a row or column whose outermost four cells at that end follow without a gap, with distances e0, e1, e2 inward and
-- r = (e0 − (2·e1 − e2)) / e1, is marked if e1 > 0, r > 0.30 and degree at most 2." Assumes nothing.
use Rattle.std.specs.Prelude.{Bool, ◌&&◌, ◌||◌, ℕ, eqb, leb, Float}
use Rattle.std.specs.Float.Ieee.{lt, sub, mul, div, of_bits}
use Rattle.folds.specs.Arith.{◌⊖◌, ◌⊗◌, ◌⊘◌, zero_f}
use Rattle.folds.specs.Below.{last}
use Rattle.float.specs.Constants.{two, frontier_tolerance}
use Rattle.float.specs.Scalar.{norm_of}
use Rattle.offsets.specs.declared.Offset.{Offset}
use Rattle.offsets.specs.Offsets.{next_u, prev_u, next_v, prev_v}
use Rattle.view.specs.View.{View, rank_at, present, degree_at}

-- the distance from rank a to rank b
unfoldable pub distance : View → ℕ → ℕ → Float
unfolding norm_of sub
distance w a b = norm_of (w.x b ⊖ w.x a) (w.y b ⊖ w.y a)

unfoldable pub kink : Float → Float → Float → Bool
unfolding lt sub mul div of_bits
kink e0 e1 e2 = lt zero_f e1 && lt frontier_tolerance ((e0 ⊖ (two ⊗ e1 ⊖ e2)) ⊘ e1)

-- the last rank of rank k's line; `line` gives the first rank of each rank's line, which stands for the line
unfoldable pub last_in_line : View → (ℕ → ℕ) → ℕ → ℕ
unfolding last
last_in_line w line k = last (λ j. eqb (line j) (line k)) 0 w.count

-- the four cells from rank k inward follow without a gap, and their spacing has a kink at rank k, whose degree is at most 2
unfoldable pub kink_at : View → Offset → ℕ → Bool
unfolding degree_at distance kink
kink_at w inward k =
    let a = rank_at w k inward in
    let b = rank_at w a inward in
    let c = rank_at w b inward in
    present w k inward && (present w a inward && (present w b inward && (leb (degree_at w k) 2 && kink (distance w k a) (distance w a b) (distance w b c))))

-- the same, and rank k is the end of its line, which `end_of` gives
abbrev pub end_mark : View → (ℕ → ℕ) → Offset → ℕ → Bool
end_mark w end_of inward k = eqb (end_of k) k && kink_at w inward k

-- both ends of each row, then of each column
unfoldable pub frontier_mark : View → ℕ → Bool
unfolding kink_at last_in_line
frontier_mark w k =
    end_mark w w.row next_u k
    || (end_mark w (last_in_line w w.row) prev_u k || (end_mark w w.column next_v k || end_mark w (last_in_line w w.column) prev_v k))
