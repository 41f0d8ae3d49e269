use Rattle.std.proofs.Common.{lt-ltb, refl}
use Rattle.folds.proofs.Marked.{marked-none, marked-as, marked-then}
use Rattle.marks.proofs.Guards.{at-below}
use Rattle.orientation.specs.Voters.{voters}
use Rattle.orientation.proofs.mark_voters.Goals as goal

pub returns-then-is_of : goal.returns-then-is_of
unfolding voters
returns-then-is_of c =
    marked-as _ _
    (λ m l. rw (c.neighbour.ensures.value, at-below, c.neighbour-then-is_of.ensures.value, at-below, ← c.is_of.ensures, c.if-is_of.true, lt-ltb _ _ c.requires) refl)
    (marked-then _ _ (marked-then _ _ c.set.ensures c.set-then-is_of.ensures) c.set-then-is_of-2.ensures)

pub returns-else-is_of : goal.returns-else-is_of
unfolding voters
returns-else-is_of c = marked-none _ _ (λ m. rw (← c.is_of.ensures, c.if-is_of.false))
