use Rattle.std.proofs.Common.{◌≡◌, ◌<◌, get_or, arith}
use Rattle.folds.proofs.Lists.{get_d_any}
use Rattle.folds.proofs.Column.{fill_start, fill_more, filled-over}
use Rattle.view.specs.Seen.{lattice_in}
use Rattle.view.proofs.lattice.SheetLattice.spread.Goals as goal

pub loop-k-init : goal.loop-k-init
loop-k-init g c d = fill_start c.args.out.now d _

pub loop-k-preserved : goal.loop-k-preserved
loop-k-preserved g c d =
    let w = lattice_in c.args.self.now.lattice in
    let x = c.index-held-index.result in
    let below : w.by_idx c.loop-k.k < w.count = c.args.self.now.ranked.indices c.loop-k.k c.loop-k-test.true in
    let at : get_or c.args.held.now c.index.result x ≡ get_or c.args.held.now (w.by_idx c.loop-k.k) d =
    rw c.index.ensures (get_d_any c.args.held.now (w.by_idx c.loop-k.k) x d (omega (arith, below, c.args.self.now.lattice.few, c.told-held))) in
    fill_more c.args.out.now d _ _ (omega (arith, c.args.self.now.lattice.few, c.told-out)) at (c.loop-k.invariant d)

pub returns : goal.returns
returns g c d =
    let e : c.loop-k.k ≡ c.args.self.now.lattice.count = omega arith in
    filled-over c.args.out.now d _ _ (omega (arith, c.args.self.now.lattice.few)) (rw e at (c.loop-k.invariant d))
