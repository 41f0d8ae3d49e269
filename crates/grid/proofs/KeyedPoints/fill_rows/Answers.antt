use native.Mathlib.Omega.{arith}
use Rattle.grid.proofs.Splicing.{spliced-none, spliced-more}
use Rattle.grid.proofs.Firsts.{tabled_start, row_more}
use Rattle.grid.proofs.KeyedPoints.fill_rows.Goals as goal

pub loop-k-init : goal.loop-k-init
loop-k-init c =
    (omega arith, tabled_start _, spliced-none _ _ _)

pub loop-k-preserved : goal.loop-k-preserved
loop-k-preserved c =
    let a = c.args in
    let l = c.loop-k in
    let m = row_more a.self.now.points.keys.now a.self.now.points.count _ _ (omega arith) _ _ a.self.now.keyed.few c.v_part-v.ensures l.invariant.1 c.earlier-r.ensures in
    (omega arith, m.0, spliced-more _ _ _ _ a.ranks.now (omega (arith, a.self.now.keyed.few)) m.1 l.invariant.2)
