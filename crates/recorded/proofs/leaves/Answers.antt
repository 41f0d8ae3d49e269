use Rattle.std.proofs.Common.{refl, ap, ◌≤◌, arith, le-leb, ◌&&◌, length, take}
use Rattle.std.specs.Fn.{FnOnceReturnsAtMut}
use Rattle.folds.proofs.Same.{told}
use Rattle.recorded.specs.Recorded.{filler}
use Rattle.recorded.proofs.leaves.Goals as goal

pub returns : goal.returns
returns g c =
    let room = c.args.room in
    let inside : room ≤ length c.args.buffer.now = omega arith in
    let gave : FnOnceReturnsAtMut g.F.FnOnce c.args.call (take room (filler (length c.args.buffer.now))) c.call-came.result c.call-came.new.arg2 =
    record { shown = _; shows = ap (take room) c.fill.ensures; left = _; met = c.call-came.ensures; leaves = refl } in
    rw (le-leb room (length c.args.buffer.now) inside)
    (c.call-came.result, c.call-came.new.arg2, gave, ap (◌&&◌ c.call-came.result) (rw c.fill.ensures at (told _ c.args.expected.now c.same.ensures.0 c.same.ensures.1)))
