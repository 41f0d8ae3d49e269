use Rattle.view.specs.Seen.{view_in}
use Rattle.drop_set.proofs.Laws.{wrong-on, wrong-off}
use Rattle.drop_set.proofs.wrong_marks.Goals as goal

pub returns-then-s : goal.returns-then-s
returns-then-s c = wrong-on c.args.s (view_in c.args.table.now.view) c.if-s.true c.topological_wrong_label_drops.ensures

pub returns : goal.returns
returns c = wrong-off c.args.s (view_in c.args.table.now.view) c.if-s.false c.args.table.now.view.sheet.lattice.few
