use Rattle.std.proofs.Common.{◌≡◌, sym, ◌∙◌, arith}
use Rattle.folds.proofs.Below.{some-none, some_more, some-yes}
use Rattle.points.proofs.Clashes.{any-listed}
use Rattle.points.proofs.records.Points.any.Goals as goal

pub loop-i-init : goal.loop-i-init
loop-i-init g c t post = some-none _

pub returns-then-fault : goal.returns-then-fault
returns-then-fault g c t post =
    sym (any-listed _ _ t ∙ some-yes _ _ c.loop-i.i c.loop-i-test.true (sym (post c.loop-i.i c.fault.result c.loop-i-test.true c.fault.ensures) ∙ c.if-fault.true))

pub loop-i-preserved : goal.loop-i-preserved
loop-i-preserved g c t post =
    some_more _ c.loop-i.i ∙ rw (c.loop-i.invariant t post) (sym (post c.loop-i.i c.fault.result c.loop-i-test.true c.fault.ensures) ∙ c.if-fault.false)

pub returns : goal.returns
returns g c t post = let e : c.loop-i.i ≡ c.args.self.now.layout.count = omega arith in sym (any-listed _ _ t ∙ rw e at (c.loop-i.invariant t post))
