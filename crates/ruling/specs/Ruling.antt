-- The ruling on a list of points with settings, and on a file and the length of a result buffer: refused with a number, or accepted with the
-- settings and the points in cell order. Assumes nothing.
use Rattle.std.specs.Prelude.{Bool, List, [], ◌∷◌, ◌++◌, ℕ, ◌*◌, length}
use Rattle.refusals.specs.First.{Condition, ruled, applies_in}
use Rattle.view.specs.View.{max_points}
use Rattle.cells.specs.Points.{Point}
use Rattle.sheet_file.specs.Frame.{framing_of, layout_of}
use Rattle.sheet_file.specs.Refusals.{settings_of, too_many, too_short, header_refusals}
use Rattle.sheet_file.specs.declared.Settings.{Settings}
use Rattle.points.specs.Records.{points_in}
use Rattle.points.specs.Refusals.{point_refusals, cell_order}

pub data Ruling : Type 0 where
  refused : ℕ → Ruling
  accepted : Settings → List Point → Ruling

-- "A call returns the first number that applies. .. it gives no number whose condition fails." Of a list of points with settings:
unfoldable pub ruling_for : Settings → List Point → Ruling
unfolding point_refusals
ruling_for s ps = ruled refused (accepted s (cell_order ps)) (point_refusals s.score_frac ps)

-- and with the length of a result buffer: by how many points there are, and then by the points. The numbers 1, 12, 4 and 5 are of bytes alone: where none of them applies, the ruling on a file is that on its points (`by-list`).
unfoldable pub ruling_in : ℕ → Settings → List Point → Ruling
unfolding ruling_for
ruling_in room s ps = ruled refused (ruling_for s ps) ((2, too_many (length ps)) ∷ (3, too_short room (length ps)) ∷ [])

-- the points of a file, as it lists them
abbrev pub points_of : List ℕ → List Point
points_of file = points_in file (layout_of file)

-- and of a file and a buffer: by its header, and then by its points with its settings
unfoldable pub ruling_of : List ℕ → ℕ → Ruling
unfolding header_refusals ruling_for
ruling_of file room = ruled refused (ruling_for (settings_of file (layout_of file)) (points_of file)) (header_refusals file room (framing_of file))

-- the refusals of a file and a buffer in one list, by which it is ruled so (`in-one-list`): those of its header, then those of its points
unfoldable pub refusals_of : List ℕ → ℕ → List Condition
unfolding header_refusals point_refusals
refusals_of file room = header_refusals file room (framing_of file) ++ point_refusals (settings_of file (layout_of file)).score_frac (points_of file)

-- their numbers, "in this order": 12 "right after 1", 13 "right after 7", 14 "right after 9"
abbrev pub sheet_numbers : List ℕ
sheet_numbers = 1 ∷ 12 ∷ 2 ∷ 3 ∷ 4 ∷ 5 ∷ 6 ∷ 7 ∷ 13 ∷ 8 ∷ 9 ∷ 14 ∷ []

-- the condition of number k holds
unfoldable pub applies : List ℕ → ℕ → ℕ → Bool
unfolding refusals_of
applies file room k = applies_in (refusals_of file room) k

-- the length of a result buffer with room for every sheet: number 3 never arises (`never-three`)
abbrev pub rows_size : ℕ
rows_size = 28 * max_points
