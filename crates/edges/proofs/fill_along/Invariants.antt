use Rattle.folds.specs.Column.{Filling}
use Rattle.offsets.specs.Axes.{forward}
use Rattle.view.specs.Seen.{seen_in}
use Rattle.edges.specs.Edges.{stored_at, no_stored, blank_column}
use Rattle.edges.proofs.fill_along.Given as goal

abbrev pub invariant-loop-k : goal.invariant-loop-k
invariant-loop-k l = Filling blank_column no_stored (stored_at (seen_in l.points) (forward l.axis)) l.k l.column
