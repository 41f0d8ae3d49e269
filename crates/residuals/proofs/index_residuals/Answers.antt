use Rattle.std.proofs.Common.{ℕ, get_or}
use lib.Ieee.{nan}
use Rattle.cells.specs.Cell.{cells_at}
use Rattle.view.specs.Seen.{view_in}
use Rattle.local_h.specs.Residual.{residual_at}
use Rattle.residuals.proofs.Indexing.{residuals-are, flags-are}
use Rattle.residuals.proofs.index_residuals.Goals as goal

pub returns : goal.returns
returns c =
    let v = c.args.celled.now.view in
    let w = view_in v in
    let cell = cells_at c.args.celled.now.keys.now in
    record {
      residuals = residuals-are w cell c.cell_residuals.ensures c.gather.ensures;
      flags = flags-are w (residual_at w cell) (λ (j : ℕ). get_or c.args.scale.now j nan) c.args.tolerance c.cell_residuals.ensures c.flags_of.ensures (c.by_index.ensures v.seen.x.now v.seen.y.now) (c.by_index-2.ensures v.seen.x.now v.seen.y.now);
    }
