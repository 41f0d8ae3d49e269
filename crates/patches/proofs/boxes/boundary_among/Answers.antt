use Rattle.std.proofs.Common.{◌≡◌, ◌&&◌, ◌∙◌, ap, get_or, ltb, rules}
use Rattle.folds.specs.Marked.{bit}
use Rattle.view.specs.View.{view_at}
use Rattle.patches.specs.Boxes.{boundary_among}
use Rattle.patches.specs.Extents.{nowhere, at_some_end}
use Rattle.patches.proofs.Outermost.{boundary-is}
use Rattle.patches.proofs.boxes.boundary_among.Goals as goal

pub returns : goal.returns
unfolding boundary_among
returns c xs ys =
    let a = c.args.points.now in
    let w = view_at a.sheet.lattice.count a.sheet.lattice.ranks.now xs ys in
    c.filled.ensures _ (λ k r h p.
    let s = get_or a.label (w.by_idx k) 0 in
    let at : r ≡ bit (ltb s w.count && at_some_end (get_or c.extents-far.result s nowhere) (get_or a.keys.now (w.by_idx k) 0)) = search rules in
    at ∙ rw c.extents-far.ensures (ap bit (boundary-is w.count a.label a.keys.now a.celled (w.by_idx k) (a.sheet.ranked.indices k h))))
