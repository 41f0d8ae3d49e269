use Rattle.std.proofs.Common.{rules}
use Rattle.orientation.specs.Voters.{votes_of}
use Rattle.orientation.proofs.votes.Goals as goal

pub returns : goal.returns
unfolding votes_of
returns c = c.filled.ensures _ (λ k r h p. search rules)
