use mathlib.Core.Path.{◌∙◌}
use Rattle.marks.specs.Marks.{is_set}
use Rattle.marks.specs.Byte.{marked_by_all}
use Rattle.marks.proofs.Byte.{from-zeros}
use Rattle.drop_set.proofs.point_marks.Goals as goal

pub returns : goal.returns
unfolding marked_by_all
returns c = c.marked_by.ensures ∙ rw (c.marked_by-second.ensures, c.marked_by-first.ensures, from-zeros c.args.n 0 (is_set c.args.validate.now))
