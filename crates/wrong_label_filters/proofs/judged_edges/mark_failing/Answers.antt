use Rattle.std.proofs.Common.{◌≡◌, refl, arith}
use Rattle.folds.specs.Below.{some}
use Rattle.folds.proofs.Marked.{marked-none, marked_more}
use Rattle.view.specs.Seen.{view_in}
use Rattle.wrong_label_filters.proofs.FailingEdges.{hits, marks-are}
use Rattle.wrong_label_filters.proofs.judged_edges.mark_failing.Goals as goal

pub loop-k-init : goal.loop-k-init
unfolding some
loop-k-init c = (marked-none _ _ (λ m. refl), record { total-is = c.sheet_count.ensures; limits = tt })

pub loop-k-preserved : goal.loop-k-preserved
loop-k-preserved c =
    let l = c.loop-k in
    let a = c.args in
    (marked_more (hits (view_in a.table.now.view) a.axis) l.k l.invariant.0 c.mark_edge.ensures.mark, c.mark_edge.ensures.known)

pub returns : goal.returns
returns c =
    let a = c.args in
    let h : c.loop-k.k ≡ a.table.now.view.sheet.lattice.count = omega arith in
    marks-are (view_in a.table.now.view) a.axis (rw h at c.loop-k.invariant.0)
