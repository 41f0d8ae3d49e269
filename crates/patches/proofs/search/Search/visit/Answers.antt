use Rattle.std.proofs.Common.{arith}
use Rattle.patches.specs.Search.{stays, pushed}
use Rattle.patches.proofs.Searching.{list-room, list-push}
use Rattle.patches.proofs.search.Search.visit.Goals as goal

pub bounds-self-self : goal.bounds-self-self
bounds-self-self c = list-room c.args.self.now.list c.args.j c.requires.1 c.if-self-j-eq0.true

pub invariant_of-self : goal.invariant_of-self
invariant_of-self c = record { list = list-push c.args.s c.args.self.now.list c.requires.1 c.if-self-j-eq0.true }

pub returns-then-self-j-eq0 : goal.returns-then-self-j-eq0
returns-then-self-j-eq0 c = pushed c.if-self-j-eq0.true

pub returns-else-self-j-eq0 : goal.returns-else-self-j-eq0
returns-else-self-j-eq0 c = stays c.if-self-j-eq0.false

pub offset_bounds-self-self : goal.offset_bounds-self-self
offset_bounds-self-self c =
    let room = list-room c.args.self.now.list c.args.j c.requires.1 c.if-self-j-eq0.true in omega arith

pub overflow_add-self : goal.overflow_add-self
overflow_add-self c =
    let room = list-room c.args.self.now.list c.args.j c.requires.1 c.if-self-j-eq0.true in omega arith
