-- A small sheet by computation: nine cells in a square, (-1, -1) to (1, 1), and one apart at (2, -1). Assumes nothing.
use mathlib.Core.Path.{◌≡◌, refl}
use mathlib.Core.List.{List, [], ◌∷◌}
use Prim.Native.Nat.{ℕ, ◌/◌, ◌%◌}
use lib.Ieee.{nan}
use lib.IntN.{pos, ◌-ℤ◌}
use lib.ListN.{get_or, take}
use Rattle.folds.specs.Below.{some}
use Rattle.folds.specs.Lists.{up_from, list_of}
use Rattle.folds.specs.Column.{column}
use Rattle.view.specs.View.{View}
use Rattle.cells.specs.Cell.{Cell}
use Rattle.cells.proofs.Edges.{cell_at}
use Rattle.patches.specs.Boxes.{boundary_among}

sheet : List ℕ → View
sheet places = record { count = 10; near = λ i. 0; row = λ k. 0; column = λ k. 0; by_idx = λ k. get_or places k 0; x = λ k. nan; y = λ k. nan }

spot : ℕ → Cell
spot k = cell_at (pos (k / 3) -ℤ pos 1) (pos (k % 3) -ℤ pos 1)

labels : List ℕ
labels = 0 ∷ 0 ∷ 0 ∷ 0 ∷ 0 ∷ 0 ∷ 0 ∷ 0 ∷ 0 ∷ 9 ∷ []

-- the middle one of the nine is on no boundary
nine : take 10 (boundary_among (sheet (0 ∷ 1 ∷ 2 ∷ 3 ∷ 4 ∷ 5 ∷ 6 ∷ 7 ∷ 8 ∷ 9 ∷ [])) labels spot) ≡ 1 ∷ 1 ∷ 1 ∷ 1 ∷ 0 ∷ 1 ∷ 1 ∷ 1 ∷ 1 ∷ 1 ∷ []
unfolding sheet spot labels boundary_among column list_of up_from some
nine = refl

-- with one index at the first and at the middle one, both show what the middle one is
shared : take 10 (boundary_among (sheet (4 ∷ 1 ∷ 2 ∷ 3 ∷ 4 ∷ 5 ∷ 6 ∷ 7 ∷ 8 ∷ 9 ∷ [])) labels spot) ≡ 0 ∷ 1 ∷ 1 ∷ 1 ∷ 0 ∷ 1 ∷ 1 ∷ 1 ∷ 1 ∷ 1 ∷ []
unfolding sheet spot labels boundary_among column list_of up_from some
shared = refl
