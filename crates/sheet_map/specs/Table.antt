-- For the code: the map of the columns of a sheet. Assumes nothing.
use Rattle.std.specs.Prelude.{cond, List, ℕ}
use Rattle.cells.specs.Cell.{cells_at}
use Rattle.judging.specs.Columns.{judged_in}
use Rattle.judging.specs.declared.columns.Columns.{Columns}
use Rattle.text.specs.Text.{refusal_of}
use Rattle.map_lines.specs.Map.{too_wide, map_of}

-- what is printed of a sheet that was read of an accepted file
abbrev pub drawn_in : Columns → List ℕ
drawn_in c = cond (too_wide c.points.count (cells_at c.points.keys.now)) (refusal_of 10) (map_of c.points.count (cells_at c.points.keys.now) (judged_in c).marks)
