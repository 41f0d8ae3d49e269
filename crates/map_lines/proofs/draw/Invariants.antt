use lib.IntN.{pos, ◌-ℤ◌}
use Rattle.cells.specs.Points.{bias}
use Rattle.cells.specs.Cell.{cells_at}
use Rattle.map_lines.specs.Page.{Drawn}
use Rattle.map_lines.proofs.draw.Given as goal

abbrev pub invariant-loop-k : goal.invariant-loop-k
invariant-loop-k l = Drawn l.k (cells_at l.keys) l.marks (pos l.u -ℤ pos bias) (pos l.v -ℤ pos bias) l.page
