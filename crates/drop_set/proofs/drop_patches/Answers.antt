use Rattle.view.specs.View.{view_at}
use Rattle.drop_set.proofs.Laws.{patched-is}
use Rattle.drop_set.proofs.drop_patches.Goals as goal

pub returns : goal.returns
returns c xs ys =
    let a = c.args in
    patched-is a.s (view_at a.weighed.now.sheet.lattice.count a.weighed.now.sheet.lattice.ranks.now xs ys) a.weighed.now.strength.now a.marks.now (c.leaf_marks-peeled.ensures xs ys) c.marked_by-left.ensures (c.component_marks-filter.ensures xs ys) c.marked_by-all.ensures
    (c.tally.ensures xs ys)
