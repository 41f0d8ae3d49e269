use native.Mathlib.Omega.{arith}
use lib.IntN.{pos, ◌-ℤ◌}
use lib.ListN.{length}
use Rattle.cells.specs.Points.{bias}
use Rattle.cells.specs.Cell.{cells_at}
use Rattle.map_lines.proofs.Drawing.{drawn-none, drawn-more}
use Rattle.map_lines.proofs.draw.Goals as goal

pub loop-k-init : goal.loop-k-init
loop-k-init c =
    let a = c.args in drawn-none (cells_at a.keys.now) a.marks.now (pos a.u -ℤ pos bias) (pos a.v -ℤ pos bias)

pub loop-k-preserved : goal.loop-k-preserved
loop-k-preserved c =
    let a = c.args in
    let k = c.loop-k.k in
    rw (c.v_part.ensures, c.u_part.ensures)
    (drawn-more a.keys.now a.marks.now (length a.keys.now) k a.u a.v c.character.result c.loop-k.page c.requires.1 (omega arith) c.character.ensures c.loop-k.invariant)
