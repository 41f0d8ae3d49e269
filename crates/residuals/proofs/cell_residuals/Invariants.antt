use lib.ListN.{replicate}
use Rattle.folds.specs.Column.{Filling}
use Rattle.cells.specs.Cell.{cells_at}
use Rattle.view.specs.View.{max_points}
use Rattle.view.specs.Seen.{view_in}
use Rattle.local_h.specs.Residual.{residual_at}
use Rattle.std.specs.Prelude.{None}
use Rattle.residuals.proofs.cell_residuals.Given as goal

abbrev pub invariant-loop-k : goal.invariant-loop-k
invariant-loop-k l = Filling (replicate max_points None) None (residual_at (view_in l.celled.view) (cells_at l.celled.keys.now)) l.k l.values
