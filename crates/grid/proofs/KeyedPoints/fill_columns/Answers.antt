use native.Mathlib.Omega.{arith}
use Rattle.grid.proofs.Splicing.{spliced-none, spliced-more}
use Rattle.grid.proofs.Firsts.{start_none, column-more}
use Rattle.grid.proofs.KeyedPoints.fill_columns.Goals as goal

pub loop-k-init : goal.loop-k-init
loop-k-init c =
    (omega arith, start_none _, spliced-none _ _ _)

pub loop-k-preserved : goal.loop-k-preserved
loop-k-preserved c =
    let a = c.args in
    let l = c.loop-k in
    let s = a.self.now in
    let m = column-more s.points.keys.now s.points.count _ _ c.loop-k-test.true _ s.keyed l.invariant.1 c.start_of-start.ensures in
    (omega arith, m.1, spliced-more _ _ _ _ a.ranks.now (omega (arith, s.keyed.few)) m.2 l.invariant.2)
