use native.Mathlib.Omega.{arith}
use mathlib.Core.Path.{◌≡◌}
use lib.ListN.{length}
use Rattle.folds.proofs.Lists.{is-list}
use Rattle.recorded.specs.Recorded.{filler}
use Rattle.recorded.proofs.fill.Goals as goal

pub returns : goal.returns
unfolding filler
returns c =
    let l = c.loop-i in
    let e : l.i ≡ length c.args.buffer.now = omega arith in
    let g = rw e at l.invariant in
    is-list 0 _ _ _ g.long g.done
