use Rattle.std.proofs.Common.{◌≡◌, arith}
use Rattle.folds.proofs.Column.{filled}
use Rattle.edge_shape.specs.Figures.{index_figures}
use Rattle.judged.proofs.figures.evaluate_edge_shape.Goals as goal

pub returns : goal.returns
unfolding index_figures
returns c =
    let lattice = c.args.edges.now.view.sheet.lattice in
    let e : c.loop-k.k ≡ lattice.count = omega arith in
    filled _ lattice.few (rw e at c.loop-k.invariant)
