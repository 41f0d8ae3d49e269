-- How far cells and patches reach each way: one number that is greatest at an end of the box. These are the contracts of the inner functions
-- of the boxes. Assumes nothing.
use Rattle.std.specs.Prelude.{Bool, not, ◌||◌, List, ℕ, ◌-◌, ◌/◌, ◌%◌, eqb, ltb, get_or}
use Rattle.folds.specs.Below.{fold, turn}
use Rattle.folds.specs.Column.{column}
use Rattle.folds.specs.Scattered.{larger}
use Rattle.view.specs.View.{max_points}
use Rattle.cells.specs.Points.{stride}
use Rattle.patches.specs.declared.boxes.Extent.{Extent}

-- the greatest that a part of a cell's key can be
abbrev pub far_end : ℕ
far_end = stride - 1

-- no cell
abbrev pub nowhere : Extent
nowhere = record { more_u = 0; less_u = 0; more_v = 0; less_v = 0 }

-- a cell: to greater u, to smaller u, to greater v, to smaller v
abbrev pub extent : ℕ → Extent
extent key = record { more_u = key / stride; less_u = far_end - key / stride; more_v = key % stride; less_v = far_end - key % stride }

-- with one cell more: the farther each way
abbrev pub extent_with : Extent → ℕ → Extent
extent_with e key =
    record {
      more_u = larger (λ k. (extent k).more_u) key e.more_u;
      less_u = larger (λ k. (extent k).less_u) key e.less_u;
      more_v = larger (λ k. (extent k).more_v) key e.more_v;
      less_v = larger (λ k. (extent k).less_v) key e.less_v;
    }

-- the patch of each label
abbrev pub extents_of : ℕ → List ℕ → List ℕ → List Extent
extents_of n labels keys = column max_points nowhere n (λ (s : ℕ). fold (turn (λ (k : ℕ). eqb (get_or labels k 0) s) (λ k e. extent_with e (get_or keys k 0))) nowhere n)

-- the cell lies as far, one of the ways
abbrev pub at_some_end : Extent → ℕ → Bool
at_some_end e key =
    not (ltb (extent key).less_u e.less_u)
    || (not (ltb (extent key).more_u e.more_u) || (not (ltb (extent key).less_v e.less_v) || not (ltb (extent key).more_v e.more_v)))
