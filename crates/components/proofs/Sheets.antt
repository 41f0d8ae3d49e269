-- Small sheets by computation. With a repeated index the kept patch may be empty although there are survivors, or in pieces. Assumes nothing.
use mathlib.Core.Path.{◌≡◌, refl}
use mathlib.Core.Bool.{◌&&◌}
use mathlib.Core.List.{[], ◌∷◌}
use Prim.Native.Nat.{◌+◌, ◌/◌, ◌%◌}
use lib.ListN.{take}
use Rattle.folds.specs.Below.{some, tally, first, first_in}
use Rattle.folds.specs.Lists.{up_from, list_of}
use Rattle.folds.specs.Column.{column}
use Rattle.offsets.specs.Offsets.{square_sides, places}
use Rattle.marks.specs.Marks.{index_marks}
use Rattle.patches.specs.Patches.{test_table, via, labels_by, labels_of, patch_labels}
use Rattle.patches.proofs.Lattices.{hex_sides}
use Rattle.components.specs.Components.{patch_count, sizes_of, largest_at, winner_of, others_by, others_of, component_count, component_mark}
use Rattle.patches.proofs.InOrder.{sheet}

-- index 7 at cells (0, 0) and (5, 5): two patches, and both points marked
empty-kept : (component_count (sheet (2 ∷ 7 ∷ []) (2 ∷ 7 ∷ []) (1 ∷ 1 ∷ [])) (places square_sides) [] ≡ 2)
    × (take 2 (component_mark (sheet (2 ∷ 7 ∷ []) (2 ∷ 7 ∷ []) (1 ∷ 1 ∷ [])) (places square_sides) []) ≡ 1 ∷ 1 ∷ [])
unfolding sheet first first_in list_of up_from some tally column test_table via labels_by labels_of patch_count sizes_of largest_at winner_of others_by others_of index_marks
empty-kept = (refl, refl)

-- indices 1, 2, 3 at cells (0, 0), (1, 0), (2, 0), and 2 again at (9, 9): 1 and 3 are left
pieces_kept : (take 4 (patch_labels (sheet (2 ∷ 3 ∷ 4 ∷ 11 ∷ []) (2 ∷ 2 ∷ 2 ∷ 11 ∷ []) (0 ∷ 3 ∷ 2 ∷ 3 ∷ [])) (places square_sides) []) ≡ 0 ∷ 0 ∷ 0 ∷ 3 ∷ [])
    × (take 4 (component_mark (sheet (2 ∷ 3 ∷ 4 ∷ 11 ∷ []) (2 ∷ 2 ∷ 2 ∷ 11 ∷ []) (0 ∷ 3 ∷ 2 ∷ 3 ∷ [])) (places square_sides) []) ≡ 0 ∷ 1 ∷ 0 ∷ 1 ∷ [])
unfolding sheet first first_in list_of up_from some tally column test_table via labels_by labels_of patch_count sizes_of largest_at winner_of others_by others_of index_marks
pieces_kept = (refl, refl)

-- "points 5 components 2": (0, 0), (0, 1), (1, 0), (1, 1) and (5, 5); with (0, 0) dropped, three are kept; with (0, 1) and (1, 0) dropped the
-- three patches are of one cell each, and (0, 0) is kept
five-kept : (component_count (sheet (2 ∷ 2 ∷ 3 ∷ 3 ∷ 7 ∷ []) (2 ∷ 3 ∷ 2 ∷ 3 ∷ 7 ∷ []) (0 ∷ 1 ∷ 2 ∷ 3 ∷ 4 ∷ [])) (places square_sides) [] ≡ 2)
    × (take 5 (component_mark (sheet (2 ∷ 2 ∷ 3 ∷ 3 ∷ 7 ∷ []) (2 ∷ 3 ∷ 2 ∷ 3 ∷ 7 ∷ []) (0 ∷ 1 ∷ 2 ∷ 3 ∷ 4 ∷ [])) (places square_sides) []) ≡ 0 ∷ 0 ∷ 0 ∷ 0 ∷ 1 ∷ [])
    × (take 5 (component_mark (sheet (2 ∷ 2 ∷ 3 ∷ 3 ∷ 7 ∷ []) (2 ∷ 3 ∷ 2 ∷ 3 ∷ 7 ∷ []) (0 ∷ 1 ∷ 2 ∷ 3 ∷ 4 ∷ [])) (places square_sides) (1 ∷ [])) ≡ 0 ∷ 0 ∷ 0 ∷ 0 ∷ 1 ∷ [])
    × (take 5 (component_mark (sheet (2 ∷ 2 ∷ 3 ∷ 3 ∷ 7 ∷ []) (2 ∷ 3 ∷ 2 ∷ 3 ∷ 7 ∷ []) (0 ∷ 1 ∷ 2 ∷ 3 ∷ 4 ∷ [])) (places square_sides) (0 ∷ 1 ∷ 1 ∷ [])) ≡ 0 ∷ 0 ∷ 0 ∷ 1 ∷ 1 ∷ [])
unfolding sheet first first_in list_of up_from some tally column test_table via labels_by labels_of patch_count sizes_of largest_at winner_of others_by others_of index_marks
five-kept = (refl, refl, refl, refl)

-- cells (0, 1) and (1, 0) share an edge on the honeycomb, not on the square lattice
hex-joined : (component_count (sheet (2 ∷ 3 ∷ []) (3 ∷ 2 ∷ []) (0 ∷ 1 ∷ [])) (places hex_sides) [] ≡ 1) × (component_count (sheet (2 ∷ 3 ∷ []) (3 ∷ 2 ∷ []) (0 ∷ 1 ∷ [])) (places square_sides) [] ≡ 2)
unfolding sheet first first_in list_of up_from some tally column test_table via labels_by labels_of patch_count
hex-joined = (refl, refl)
