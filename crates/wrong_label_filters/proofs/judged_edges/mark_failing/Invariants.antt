use Rattle.std.proofs.Common.{ℕ}
use Rattle.folds.specs.Below.{some}
use Rattle.folds.specs.Marked.{Marked}
use Rattle.wrong_label_filters.specs.Windows.{sheet_in, Knows}
use Rattle.wrong_label_filters.proofs.FailingEdges.{hits}
use Rattle.wrong_label_filters.proofs.judged_edges.mark_failing.Given as goal

abbrev pub invariant-loop-k : goal.invariant-loop-k
invariant-loop-k l =
    Marked (λ (m : ℕ). some (λ (j : ℕ). hits (sheet_in l.edges) l.edges.axis j m) l.k) l.initial.mark l.mark
    × Knows l.edges l.known
