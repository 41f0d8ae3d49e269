use Rattle.std.proofs.Common.{rules, arith, sym}
use Rattle.folds.proofs.Below.{tally-none}
use Rattle.folds.proofs.Marked.{tally-bit}
use Rattle.view.proofs.counted.Goals as goal

pub loop-i-init : goal.loop-i-init
loop-i-init g c = (omega arith, λ h post. sym (tally-none h))

pub loop-i-preserved : goal.loop-i-preserved
loop-i-preserved g c = (
  search rules,
  λ h post. rw (tally-bit h c.loop-i.i, ← post c.loop-i.i c.f.result c.loop-i-test.true c.f.ensures, ← c.loop-i.invariant.1 h post) (search rules),
)
