use Rattle.local_h.specs.Residual.{residual_from}
use Rattle.local_h.proofs.residual_from.Goals as goal

pub returns : goal.returns
unfolding residual_from
returns c = rw (
  c.residual_by.ensures,
  c.point-5.ensures,
  c.cell-5.ensures,
  c.homography_from_4pt-fit.ensures,
  c.point-4.ensures,
  c.point-3.ensures,
  c.point-2.ensures,
  c.point.ensures,
  c.cell-4.ensures,
  c.cell-3.ensures,
  c.cell-2.ensures,
  c.cell.ensures,
)
