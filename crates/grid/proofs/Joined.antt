-- The table of neighbours leads from cell to cell; over the four offsets of the square lattice, over shared edges. Assumes nothing.
use mathlib.Core.Path.{◌≡◌}
use mathlib.Core.Bool.{true}
use mathlib.Core.List.{List}
use Prim.Native.Nat.{ℕ, ◌+◌, ◌*◌, ◌<◌}
use lib.Dec.{eqb}
use lib.ListN.{length, get_or}
use borrow.Author.Tests.{eq-eqb, eqb-true}
use Rattle.folds.specs.Below.{some}
use Rattle.folds.proofs.Below.{some-ext}
use Rattle.offsets.specs.declared.Offset.{Offset}
use Rattle.offsets.specs.Offsets.{own, is_near, places}
use Rattle.offsets.proofs.Places.{places-long, places-at}
use Rattle.view.specs.View.{rank_at}
use Rattle.cells.specs.Points.{Point, nowhere}
use Rattle.cells.specs.Cell.{Cell, cell_of, coincide, offset_by, joined_by}
use Rattle.cells.proofs.Edges.{coincide-same, coincide-true}
use Rattle.grid.specs.Views.{view_of}
use Rattle.grid.specs.InOrder.{CellOrder}
use Rattle.grid.proofs.InOrder.{near-means, near-found}
use Rattle.std.specs.Cmp.{both_ways}

module _ (ps : List Point) (o : CellOrder ps) where
  abbrev cell : ℕ → Cell
  cell k = cell_of (get_or ps k nowhere)

  -- b is at one of the offsets from a just where one of them leads from a's cell to b's
  pub touch-joined : (sides : List Offset) → ((i : ℕ) → i < length sides → is_near (get_or sides i own) ≡ true) → (a b : ℕ) → a < length ps → b < length ps
      → some (λ (i : ℕ). eqb ((view_of ps).near (25 * a + get_or (places sides) i 0)) b) (length (places sides)) ≡ joined_by sides (cell a) (cell b)
  touch-joined sides near a b ha hb =
      rw (places-long sides)
      (some-ext (λ (i : ℕ). eqb ((view_of ps).near (25 * a + get_or (places sides) i 0)) b) (λ (i : ℕ). coincide (cell b) (offset_by (get_or sides i own) (cell a))) (length sides)
      (λ i h. rw (places-at sides i h) (at (get_or sides i own) (near i h))))
    where
      at : (d : Offset) → is_near d ≡ true → eqb (rank_at (view_of ps) a d) b ≡ coincide (cell b) (offset_by d (cell a))
      at d h =
          both_ways (eqb (rank_at (view_of ps) a d) b) (coincide (cell b) (offset_by d (cell a)))
          (λ e. coincide-same (cell b) (offset_by d (cell a)) (near-means ps o a d b ha h hb (eqb-true (rank_at (view_of ps) a d) b e)))
          (λ e. eq-eqb (rank_at (view_of ps) a d) b (near-found ps o a d b ha h hb (coincide-true (cell b) (offset_by d (cell a)) e)))
