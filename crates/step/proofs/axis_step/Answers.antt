use Rattle.std.proofs.Common.{sym, ◌∙◌}
use Rattle.view.proofs.Found.{not-found, found, found-below}
use Rattle.step.specs.Step.{axis_step}
use Rattle.step.proofs.axis_step.Goals as goal

pub returns-in-Some-Some : goal.returns-in-Some-Some
unfolding axis_step
returns-in-Some-Some c =
    let l = sym c.in-Some-Some.is-0 ∙ (rw c.back.ensures at c.neighbour.ensures.value) in
    let r = sym c.in-Some-Some.is-1 ∙ (rw c.forward.ensures at c.neighbour-2.ensures.value) in
    rw (found-below _ _ l, found-below _ _ r, found _ _ l, found _ _ r, c.spacing.ensures)

pub returns-in-Some-None : goal.returns-in-Some-None
unfolding axis_step
returns-in-Some-None c =
    let l = sym c.in-Some-None.is-0 ∙ (rw c.back.ensures at c.neighbour.ensures.value) in
    let r = sym c.in-Some-None.is-1 ∙ (rw c.forward.ensures at c.neighbour-2.ensures.value) in
    rw (found-below _ _ l, not-found _ _ r, found _ _ l, c.spacing-in-Some-None.ensures)

pub returns-in-None-Some : goal.returns-in-None-Some
unfolding axis_step
returns-in-None-Some c =
    let l = sym c.in-None-Some.is-0 ∙ (rw c.back.ensures at c.neighbour.ensures.value) in
    let r = sym c.in-None-Some.is-1 ∙ (rw c.forward.ensures at c.neighbour-2.ensures.value) in
    rw (not-found _ _ l, found-below _ _ r, found _ _ r, c.spacing-in-None-Some.ensures)

pub returns-in-None-None : goal.returns-in-None-None
unfolding axis_step
returns-in-None-None c =
    let l = sym c.in-None-None.is-0 ∙ (rw c.back.ensures at c.neighbour.ensures.value) in
    let r = sym c.in-None-None.is-1 ∙ (rw c.forward.ensures at c.neighbour-2.ensures.value) in
    rw (not-found _ _ l, (not-found _ _ r))
