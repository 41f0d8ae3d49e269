use Rattle.std.proofs.Common.{◌≡◌, arith}
use Rattle.text.specs.Text.{spaces}
use Rattle.text.proofs.Stores.{stored-start, stored_more}
use Rattle.text.proofs.Writer.spaces.Goals as goal
use Rattle.text.proofs.Writer.spaces.Invariants.{space}

pub loop-k-init : goal.loop-k-init
loop-k-init c = stored-start space

pub loop-k-preserved : goal.loop-k-preserved
loop-k-preserved c = stored_more space c.loop-k.invariant c.byte.ensures

pub returns : goal.returns
unfolding spaces
returns c =
    let e : c.loop-k._k ≡ c.args.count = omega arith in
    rw e at c.loop-k.invariant
