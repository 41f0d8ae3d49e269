use Rattle.view.specs.View.{degree_at}
use Rattle.folds.proofs.Marked.{tally-four}
use Rattle.view.proofs.degree_at.Goals as goal

pub returns : goal.returns
unfolding degree_at
returns c =
    rw (tally-four _) (cc)
