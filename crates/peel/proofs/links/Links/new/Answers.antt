use Rattle.std.proofs.Common.{◌≡◌, ◌<◌, arith}
use Rattle.view.specs.View.{max_points}
use Rattle.peel.proofs.Chaining.{chain-none, chain-put}
use Rattle.peel.proofs.links.Links.new.Goals as goal

pub loop-k-init : goal.loop-k-init
loop-k-init c = chain-none

pub loop-k-preserved : goal.loop-k-preserved
loop-k-preserved c =
    let v = c.args.sheet.now in
    let place : c.index-b.result < max_points = omega (arith, c.index-b.ensures, v.ranked.indices c.loop-k.k c.loop-k-test.true, v.lattice.few) in
    chain-put c.loop-k.invariant c.index-b.ensures place (omega (arith, v.lattice.few))

pub invariant_of-result : goal.invariant_of-result
invariant_of-result c =
    let e : c.loop-k.k ≡ c.args.sheet.now.lattice.count = omega arith in
    record { chained = rw e at c.loop-k.invariant }
