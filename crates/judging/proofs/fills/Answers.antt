use Rattle.judging.proofs.fills.Goals as goal

pub returns : goal.returns
returns c = λ s. rw c.square_sides.ensures at c.fills.ensures
