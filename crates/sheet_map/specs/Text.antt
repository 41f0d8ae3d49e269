-- "A map on one page": what the program `map` prints of any bytes. Assumes nothing.
use Rattle.std.specs.Prelude.{List, [], ◌∷◌, ℕ, length}
use Rattle.refusals.specs.First.{Condition, ruled}
use Rattle.cells.specs.Points.{Point}
use Rattle.cells.specs.Cell.{cells_of}
use Rattle.ruling.specs.Ruling.{Ruling, refused, accepted, ruling_of, rows_size}
use Rattle.judging.specs.Judging.{judged_for}
use Rattle.text.specs.Text.{refusal_of}
use Rattle.map_lines.specs.Map.{too_wide, map_of}

-- "It refuses with 10, after all older checks, points that span more than 72 values of u or 60 of v."
unfoldable pub map_refusals : List Point → List Condition
map_refusals ps = (10, too_wide (length ps) (cells_of ps)) ∷ []

-- the ruling on a sheet that is to be drawn: that on the sheet, and then the map's own
abbrev pub map_ruling : Ruling → Ruling
map_ruling (refused k) = refused k
map_ruling (accepted s ps) = ruled refused (accepted s ps) (map_refusals ps)

-- of a file's bytes, with a result buffer for every sheet
unfoldable pub map_ruling_of : List ℕ → Ruling
unfolding ruling_of map_refusals
map_ruling_of file = map_ruling (ruling_of file rows_size)

-- "A refusal prints `refused` and the number"; else the map of the points in cell order and of their marks
abbrev pub map_by : Ruling → List ℕ
map_by (refused k) = refusal_of k
map_by (accepted s ps) = map_of (length ps) (cells_of ps) (judged_for s ps).marks

unfoldable pub map_text_of : List ℕ → List ℕ
unfolding map_ruling_of judged_for cells_of map_of refusal_of
map_text_of file = map_by (map_ruling_of file)
