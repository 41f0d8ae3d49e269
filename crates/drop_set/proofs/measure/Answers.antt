use Rattle.std.proofs.Common.{ap}
use lib.ListN.{replicate}
use Rattle.view.specs.View.{View, max_points}
use Rattle.view.specs.Seen.{view_in}
use Rattle.cells.specs.Cell.{cells_at}
use Rattle.drop_set.proofs.Laws.{marks-of, reasons-read, points-are, measured-is, figures-are}
use Rattle.drop_set.proofs.measure.Goals as goal

pub fill-requires : goal.fill-requires
fill-requires c = (ap (replicate max_points) c.no_edge-along_u.ensures, ap (replicate max_points) c.no_edge-along_v.ensures)

pub validate-j-requires : goal.validate-j-requires
validate-j-requires c = record { cells = c.requires.0.cells; reasons = reasons-read c.args.s (view_in c.args.celled.now.view) c.edge_figures.ensures }

pub returns : goal.returns
returns c =
    let a = c.args in
    let w : View = view_in a.celled.now.view in
    let cell = cells_at a.celled.now.keys.now in
    let v = c.validate-j.ensures in
    let marks = points-are a.s w cell (marks-of a.s w cell v.measured) c.lattice_orientation_drops-orientation.ensures c.wrong_marks-wrong.ensures c.point_marks-marks.ensures in
    record { findings = measured-is a.s w cell v.measured marks; residuals = v.residuals; figures = figures-are a.s w c.edge_figures.ensures }
