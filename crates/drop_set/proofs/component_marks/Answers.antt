use Rattle.view.specs.View.{view_at}
use Rattle.drop_set.proofs.Laws.{joined-on, joined-off}
use Rattle.drop_set.proofs.component_marks.Goals as goal

pub returns-then-s : goal.returns-then-s
returns-then-s c xs ys = joined-on c.args.s (view_at c.args.sheet.now.lattice.count c.args.sheet.now.lattice.ranks.now xs ys) c.args.marks.now c.if-s.true c.square_sides.ensures (c.largest_component_filter.ensures xs ys)

pub returns : goal.returns
returns c xs ys = joined-off c.args.s (view_at c.args.sheet.now.lattice.count c.args.sheet.now.lattice.ranks.now xs ys) c.args.marks.now c.if-s.false
