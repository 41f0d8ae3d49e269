-- The boxes of patches: a point is on the boundary of its patch's box if its u or v is the least or the greatest of its patch.
-- Assumes nothing.
use Rattle.std.specs.Prelude.{Bool, not, ◌&&◌, ◌||◌, List, [], ℕ, ◌^◌, ◌<◌, eqb, ltb, ℤ, get_or}
use Rattle.std.specs.Int.Signed.{lt_z}
use Rattle.folds.specs.Below.{some}
use Rattle.folds.specs.Column.{column}
use Rattle.folds.specs.Marked.{bit}
use Rattle.view.specs.View.{View, max_points}
use Rattle.cells.specs.Cell.{Cell}
use Rattle.patches.specs.Patches.{labels_of, patch_labels}

module _ (n : ℕ) (labels : List ℕ) (cell : ℕ → Cell) where
  -- no point of rank k's patch has a smaller f, and none a greater
  abbrev pub is_least : (Cell → ℤ) → ℕ → Bool
  is_least f k = not (some (λ (j : ℕ). eqb (get_or labels j 0) (get_or labels k 0) && lt_z (f (cell j)) (f (cell k))) n)

  abbrev pub is_greatest : (Cell → ℤ) → ℕ → Bool
  is_greatest f k = not (some (λ (j : ℕ). eqb (get_or labels j 0) (get_or labels k 0) && lt_z (f (cell k)) (f (cell j))) n)

  abbrev pub on_boundary : ℕ → Bool
  on_boundary k =
      ltb (get_or labels k 0) n
      && (is_least (λ c. c.u) k || (is_greatest (λ c. c.u) k || (is_least (λ c. c.v) k || is_greatest (λ c. c.v) k)))

-- "box boundary (0 or 1)" by rank, given the labels of the patches: "A row shows what the Rust holds under the point's index", which is the
-- entry of the rank that has the index's place
unfoldable pub boundary_among : View → List ℕ → (ℕ → Cell) → List ℕ
unfolding column some
boundary_among w labels cell = column max_points 0 w.count (λ (k : ℕ). bit (on_boundary w.count labels cell (w.by_idx k)))

-- of the patches of all points: none is dropped
unfoldable pub boundary_of : View → List ℕ → (ℕ → Cell) → List ℕ
unfolding boundary_among labels_of
boundary_of w sides cell = boundary_among w (patch_labels w sides []) cell

-- what a caller sees to: each of the first n keys is that of a cell
abbrev pub CellKeys : ℕ → List ℕ → Type 0
CellKeys n keys = (k : ℕ) → k < n → get_or keys k 0 < 2 ^ 28
