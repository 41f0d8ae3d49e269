use Rattle.std.proofs.Common.{◌≡◌, sym, ◌∙◌, arith}
use Rattle.folds.proofs.Below.{some-none, some_more, some-yes}
use Rattle.joined.proofs.any.Goals as goal

pub loop-k-init : goal.loop-k-init
loop-k-init g c t post = some-none _

pub returns-then-f : goal.returns-then-f
returns-then-f g c t post = sym (some-yes _ _ c.loop-k.k c.loop-k-test.true (sym (post c.loop-k.k c.f.result c.loop-k-test.true c.f.ensures) ∙ c.if-f.true))

pub loop-k-preserved : goal.loop-k-preserved
loop-k-preserved g c t post = some_more _ c.loop-k.k ∙ rw (c.loop-k.invariant t post) (sym (post c.loop-k.k c.f.result c.loop-k-test.true c.f.ensures) ∙ c.if-f.false)

pub returns : goal.returns
returns g c t post = let e : c.loop-k.k ≡ c.args.n = omega arith in sym (rw e at (c.loop-k.invariant t post))
