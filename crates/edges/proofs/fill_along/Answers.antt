use Rattle.std.proofs.Common.{◌≡◌, arith}
use Rattle.folds.proofs.Column.{filled}
use Rattle.edges.specs.Edges.{edges_along}
use Rattle.edges.proofs.fill_along.Goals as goal

pub returns : goal.returns
unfolding edges_along
returns c =
    let lattice = c.args.points.now.lattice in
    let e : c.loop-k.k ≡ lattice.count = omega arith in
    filled _ lattice.few (rw e at c.loop-k.invariant)
