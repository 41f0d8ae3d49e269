use mathlib.Core.Path.{sym}
use Rattle.folds.proofs.Below.{some-yes}
use Rattle.linear.specs.Linear.{zero_at, zero_diagonal}
use Rattle.linear.proofs.zero_diagonal.Goals as goal

pub returns-then-m-i : goal.returns-then-m-i
unfolding zero_diagonal
returns-then-m-i c = sym (some-yes (zero_at c.args.m.now) 8 c.loop-i.i c.loop-i-test.true c.if-m-i.true)
