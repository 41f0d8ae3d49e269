-- The points that the code's struct holds, and their order. Assumes nothing.
use Rattle.std.specs.List.{list_any}
use Rattle.std.specs.Prelude.{◌≡◌, false, List, ℕ, ◌%◌, get_or}
use Rattle.cells.specs.Points.{Point, key_of}
use Rattle.sort.specs.Packed.{packed_places, entries_of}
use Rattle.sheet_file.specs.Bytes.{Bytes}
use Rattle.points.specs.Records.{ith_point, points_in}
use Rattle.points.specs.Refusals.{off_range, off_limit, off_strength}
use Rattle.points.specs.declared.records.Points.{Points}
use Rattle.points.specs.declared.records.Order.{Order}

-- point i, and all of them, as the file lists them
abbrev pub nth : Points → ℕ → Point
nth p i = ith_point p.file.now p.layout i

abbrev pub listed : Points → List Point
listed p = points_in p.file.now p.layout

-- the point at rank r
abbrev pub at_rank : Order → ℕ → Point
at_rank o r = nth o.points (get_or o.entries r 0 % packed_places)

-- the order is that of this key
abbrev pub Ordered : Order → (Point → ℕ) → Type 0
Ordered o key = o.entries ≡ entries_of o.points.layout.count (λ (i : ℕ). key (nth o.points i))

-- it is that of the cells, and the points have no fault of number 6, 7 or 13
pub record InCellOrder (o : Order) : Type 0 where
  pub bytes : Bytes o.points.file.now
  pub in-range : list_any off_range (listed o.points) ≡ false
  pub in-limit : list_any off_limit (listed o.points) ≡ false
  pub strengths : list_any off_strength (listed o.points) ≡ false
  pub ordered : Ordered o key_of
