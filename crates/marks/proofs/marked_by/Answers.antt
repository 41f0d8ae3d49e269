use Rattle.std.proofs.Common.{rules}
use Rattle.marks.specs.Byte.{marked_by}
use Rattle.marks.proofs.marked_by.Goals as goal

pub returns : goal.returns
unfolding marked_by
returns c = c.filled.ensures _ (λ k r h p. search rules)
