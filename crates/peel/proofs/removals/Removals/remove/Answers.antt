use Rattle.std.proofs.Common.{arith}
use Rattle.peel.proofs.Searching.{queue-few}
use Rattle.peel.proofs.removals.Removals.remove.Goals as goal

pub offset_bounds-self-from : goal.offset_bounds-self-from
offset_bounds-self-from c = omega (arith, queue-few c.args.self.now.queued)

pub slice_bounds-x-items-end : goal.slice_bounds-x-items-end
slice_bounds-x-items-end c = omega (arith, queue-few c.args.self.now.queued)
