use Rattle.std.proofs.Common.{◌≡◌}
use Rattle.wrong_label_filters.specs.Windows.{sheet_in, edges_in, window_to}
use Rattle.wrong_label_filters.proofs.judged_edges.EdgesAlong.window_at.Given as goal

abbrev pub invariant-loop-j : goal.invariant-loop-j
invariant-loop-j l = l.v ≡ window_to (sheet_in l.self) (edges_in l.self) l.k l.own l.j
