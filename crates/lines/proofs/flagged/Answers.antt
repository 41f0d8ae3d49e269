use Rattle.std.proofs.Common.{◌≡◌, arith}
use Rattle.view.specs.View.{max_points}
use Rattle.lines.proofs.Marking.{lines_none, lines_more, lines-column}
use Rattle.lines.proofs.flagged.Goals as goal

pub members-requires-clause-small : goal.members-requires-clause-small
members-requires-clause-small g c = omega (arith, c.args.lattice.now.few)

pub members-requires-clause-chained : goal.members-requires-clause-chained
members-requires-clause-chained g c =
    let given = c.requires.numbered in
    (c.args.lattice.now.count, given.0, c.chained-chain.ensures given.0 given.1)

pub loop-number-init : goal.loop-number-init
loop-number-init g c h given = lines_none _ _ _ _ _

pub loop-number-preserved : goal.loop-number-preserved
loop-number-preserved g c h given =
    lines_more _ _ _ _ _ (c.loop-number.invariant h given) (c.members.ensures.line c.args.lattice.now.count h (c.chained-chain.ensures h given)) c.mark_flagged.ensures

pub returns : goal.returns
returns g c h given =
    let e : c.loop-number.number ≡ c.args.lattice.now.count = omega arith in
    lines-column _ _ _ _ max_points c.args.lattice.now.few given.inside (rw e at (c.loop-number.invariant h given))
