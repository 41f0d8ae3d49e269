use Rattle.std.proofs.Common.{ℕ}
use lib.ListN.{replicate}
use Rattle.folds.specs.Below.{some}
use Rattle.folds.specs.Marked.{Marked}
use Rattle.view.specs.View.{max_points}
use Rattle.view.specs.Seen.{view_in}
use Rattle.orientation.specs.Voters.{voters}
use Rattle.orientation.proofs.side_members.Given as goal

abbrev pub invariant-loop-k : goal.invariant-loop-k
invariant-loop-k l = Marked (λ (m : ℕ). some (λ (j : ℕ). voters (view_in l.view) l.vote l.side j m) l.k) (replicate max_points 0) l.out
