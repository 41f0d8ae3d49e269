use Rattle.std.proofs.Common.{◌≡◌, arith}
use lib.ListN.{replicate, length-replicate}
use Rattle.folds.proofs.Column.{fill_start, fill_more, filled}
use Rattle.view.specs.View.{max_points}
use Rattle.float.specs.declared.Distance.{Distance}
use Rattle.std.specs.Prelude.{Option, None}
use Rattle.residuals.proofs.cell_residuals.Goals as goal

pub loop-k-init : goal.loop-k-init
loop-k-init c = fill_start (replicate max_points None) None _

pub loop-k-preserved : goal.loop-k-preserved
loop-k-preserved c =
    fill_more (replicate max_points None) None _ _ (omega (arith, length-replicate {A = Option Distance} max_points None, c.args.celled.now.view.sheet.lattice.few)) (rw c.points.ensures at c.local_h_residual.ensures) c.loop-k.invariant

pub returns : goal.returns
returns c =
    let e : c.loop-k.k ≡ c.args.celled.now.view.sheet.lattice.count = omega arith in
    filled _ c.args.celled.now.view.sheet.lattice.few (rw e at c.loop-k.invariant)
