use Rattle.std.proofs.Common.{arith}
use Rattle.peel.proofs.Searching.{queue-room, queue-put}
use Rattle.peel.proofs.removals.Removals.put.Goals as goal

pub offset_bounds-self-self : goal.offset_bounds-self-self
offset_bounds-self-self c = omega (arith, queue-room c.args.self.now.queued c.args.x c.requires.0 c.requires.1)

pub bounds-self-self : goal.bounds-self-self
bounds-self-self c = queue-room c.args.self.now.queued c.args.x c.requires.0 c.requires.1

pub overflow_add-self : goal.overflow_add-self
overflow_add-self c = omega (arith, queue-room c.args.self.now.queued c.args.x c.requires.0 c.requires.1)

pub invariant_of-self : goal.invariant_of-self
invariant_of-self c = record { queued = queue-put c.args.self.now.queued c.args.x c.requires.0 c.requires.1 }
