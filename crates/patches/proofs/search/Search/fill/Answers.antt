use Rattle.std.proofs.Common.{arith}
use Rattle.patches.proofs.Searching.{list-few, advance-then, fill_end}
use Rattle.patches.proofs.search.Search.fill.Goals as goal

pub overflow_add-head : goal.overflow_add-head
overflow_add-head c = omega (arith, c.loop-head-test.true, list-few c.loop-head.self.list)

pub loop-head-smaller : goal.loop-head-smaller
loop-head-smaller c = omega (arith, c.loop-head-test.true, list-few c.loop-head.self.list)

pub loop-head-preserved : goal.loop-head-preserved
loop-head-preserved c = advance-then c.loop-head.invariant c.expand.ensures

pub returns : goal.returns
returns c = fill_end c.requires c.args.self.now.list c.visit.ensures c.loop-head.invariant c.loop-head-test.false
