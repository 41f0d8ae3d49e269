use Rattle.view.proofs.Found.{not-found, found, found-below}
use Rattle.orientation.specs.Orientation.{vote_at}
use Rattle.orientation.proofs.vote_at.Goals as goal

pub returns-in_err-a : goal.returns-in_err-a
unfolding vote_at
returns-in_err-a c = rw (c.from_residual.ensures, not-found _ _ c.in_err-a.ensures.value)

pub returns-in_err-b : goal.returns-in_err-b
unfolding vote_at
returns-in_err-b c = rw (c.from_residual-in_err-b.ensures, found-below _ _ c.in_ok-a.ensures.value, not-found _ _ c.in_err-b.ensures.value)

pub returns : goal.returns
unfolding vote_at
returns c =
    rw (found-below _ _ c.in_ok-a.ensures.value, found-below _ _ c.in_ok-b.ensures.value, found _ _ c.in_ok-a.ensures.value, found _ _ c.in_ok-b.ensures.value, ← c.cross_of.ensures)
    c.vote_by.ensures
