use Rattle.std.proofs.Common.{◌≡◌, ◌+◌, ◌-◌, ◌<◌, arith}
use Rattle.lines.proofs.Walking.{chain-start, chain_more}
use Rattle.lines.proofs.chained.Goals as goal

pub loop-i-init : goal.loop-i-init
loop-i-init g c h t = chain-start c.args.lattice.now.count h c.args.lattice.now.few

pub loop-i-preserved : goal.loop-i-preserved
loop-i-preserved g c h t =
    let e : c.loop-i.i ≡ c.loop-i.i - 1 + 1 = omega arith in
    let k = c.loop-i.i - 1 in
    let number = c.line-number.result in
    let given = c.requires.numbered.1 in
    let inside : number < c.args.lattice.now.count = omega (arith, given.is k number (omega arith) c.line-number.ensures, given.inside k (omega arith)) in
    chain_more c.args.lattice.now.count h k number _ _ (omega arith) (omega (arith, inside, c.args.lattice.now.few)) (t.is k number (omega arith) c.line-number.ensures)
    (rw e at (c.loop-i.invariant h t))

pub returns : goal.returns
returns g c h t = let e : c.loop-i.i ≡ 0 = omega arith in rw e at (c.loop-i.invariant h t)
