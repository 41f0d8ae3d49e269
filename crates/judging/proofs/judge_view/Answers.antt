use Rattle.view.specs.Seen.{view_in}
use Rattle.cells.specs.Cell.{cells_at}
use Rattle.drop_set.proofs.Laws.{judged-is}
use Rattle.judging.proofs.judge_view.Goals as goal

pub returns : goal.returns
returns c =
    let a = c.args in
    let v = a.celled.now.view in
    let m = c.measure-m.ensures in
    judged-is a.s (view_in v) (cells_at a.celled.now.keys.now) a.strength.now _ _ m.findings m.residuals m.figures (c.drop_patches-d.ensures v.seen.x.now v.seen.y.now)
