use Rattle.cells.specs.Cell.{cells_at}
use Rattle.view.specs.Seen.{view_in}
use Rattle.validate.proofs.Stages.{all_are}
use Rattle.validate.proofs.validate.Goals as goal

pub returns : goal.returns
returns c =
    let a = c.args in
    let r = c.by_rules-ruled.ensures in
    record {
      measured = all_are a.s (view_in a.celled.now.view) (cells_at a.celled.now.keys.now) a.figures.now r.marks c.requires.reasons c.boundary_by.ensures c.with_reasons.ensures;
      residuals = r.residuals;
    }
