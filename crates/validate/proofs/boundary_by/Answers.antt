use Rattle.view.specs.Seen.{view_in}
use Rattle.cells.specs.Cell.{cells_at}
use Rattle.validate.proofs.Stages.{off-boundary, on-boundary}
use Rattle.validate.proofs.boundary_by.Goals as goal

pub returns-in-None : goal.returns-in-None
returns-in-None c =
    let a = c.args.celled.now in
    off-boundary (view_in a.view) (cells_at a.keys.now) c.in-None.is a.view.sheet.lattice.few

pub returns-in-Some : goal.returns-in-Some
returns-in-Some c =
    let a = c.args.celled.now in
    on-boundary (view_in a.view) (cells_at a.keys.now) _ c.in-Some.is c.square_sides.ensures (c.boundary.ensures a.view.seen.x.now a.view.seen.y.now)
