-- The view of a few cells, for small sheets by computation. Assumes nothing.
use mathlib.Core.Bool.{◌&&◌}
use mathlib.Core.List.{List}
use Prim.Native.Nat.{ℕ, ◌+◌, ◌/◌, ◌%◌}
use lib.Dec.{eqb}
use lib.Ieee.{nan}
use lib.ListN.{length, get_or}
use Rattle.folds.specs.Below.{first, first_in}
use Rattle.offsets.specs.Offsets.{up_by2, offset_of}
use Rattle.view.specs.View.{View}

-- the view of cells in order, u and v from 2 on, with the place of each cell's index: entry 25 * k + d is the rank of the cell at the offset with place d
unfoldable pub sheet : List ℕ → List ℕ → List ℕ → View
unfolding first first_in
sheet us vs lasts = record {
  count = length us;
  near = λ i. first (λ (j : ℕ). eqb (get_or us j 0 + 2) (get_or us (i / 25) 0 + up_by2 (offset_of (i % 25)).du) && eqb (get_or vs j 0 + 2) (get_or vs (i / 25) 0 + up_by2 (offset_of (i % 25)).dv)) 0 (length us);
  row = λ k. 0;
  column = λ k. 0;
  by_idx = λ k. get_or lasts k 0;
  x = λ k. nan;
  y = λ k. nan;
}
