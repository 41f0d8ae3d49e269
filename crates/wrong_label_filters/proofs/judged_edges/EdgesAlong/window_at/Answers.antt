use Rattle.std.proofs.Common.{sym, ◌∙◌, arith}
use Rattle.folds.proofs.Below.{tally-le}
use Rattle.wrong_label_filters.specs.Windows.{sheet_in, edges_in, window_to}
use Rattle.wrong_label_filters.proofs.FailingEdges.{window-none, window_more}
use Rattle.wrong_label_filters.proofs.judged_edges.EdgesAlong.window_at.Goals as goal

pub loop-j-init : goal.loop-j-init
loop-j-init c = let a = c.args in window-none (sheet_in a.self.now) (edges_in a.self.now) a.k a.own

pub with_edge_at-v-requires : goal.with_edge_at-v-requires
unfolding window_to
with_edge_at-v-requires c =
    let v = c.loop-j.invariant in
    (c.requires, omega arith, rw v (tally-le _ c.loop-j.j), rw v (tally-le _ c.loop-j.j))

pub loop-j-preserved : goal.loop-j-preserved
loop-j-preserved c =
    let a = c.args in
    c.with_edge_at-v.ensures ∙ rw c.loop-j.invariant (sym (window_more (sheet_in a.self.now) (edges_in a.self.now) a.k a.own c.loop-j.j))
