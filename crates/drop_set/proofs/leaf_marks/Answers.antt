use Rattle.std.proofs.Common.{◌∙◌}
use Rattle.view.specs.View.{view_at}
use Rattle.patches.proofs.Lattices.{square-near, square-paired}
use Rattle.drop_set.proofs.Laws.{unpeeled, peeled-by}
use Rattle.drop_set.proofs.leaf_marks.Goals as goal

pub weak_leaf_peel-requires : goal.weak_leaf_peel-requires
weak_leaf_peel-requires c = rw c.square_sides.ensures (square-near, square-paired, c.args.weighed.now.weighed.mirrored)

pub returns-in-Missing : goal.returns-in-Missing
returns-in-Missing c xs ys =
    let a = c.args in
    c.no_leaves.ensures ∙ unpeeled a.s (view_at a.weighed.now.sheet.lattice.count a.weighed.now.sheet.lattice.ranks.now xs ys) a.weighed.now.strength.now a.marks.now (rw c.in-Missing.is) a.weighed.now.sheet.lattice.few

pub returns-in-Outside : goal.returns-in-Outside
returns-in-Outside c xs ys =
    let a = c.args in
    c.no_leaves-in-Outside.ensures ∙ unpeeled a.s (view_at a.weighed.now.sheet.lattice.count a.weighed.now.sheet.lattice.ranks.now xs ys) a.weighed.now.strength.now a.marks.now (rw c.in-Outside.is) a.weighed.now.sheet.lattice.few

pub returns-in-Given : goal.returns-in-Given
returns-in-Given c xs ys =
    let a = c.args in
    peeled-by a.s (view_at a.weighed.now.sheet.lattice.count a.weighed.now.sheet.lattice.ranks.now xs ys) a.weighed.now.strength.now a.marks.now c.in-Given.is c.square_sides.ensures c.weak_marks-weak.ensures (c.weak_leaf_peel.ensures xs ys)
