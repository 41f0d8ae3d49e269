use Rattle.std.proofs.Common.{arith, refl}
use Rattle.runs.specs.Run.{with_sheet}
use Rattle.runs.proofs.Full.{not_full}
use Rattle.runs.proofs.with_sheet.Goals as goal

pub overflow_add-result : goal.overflow_add-result
overflow_add-result c = omega (arith, (not_full c.args.run c.requires.room).few)

pub returns : goal.returns
unfolding with_sheet
returns c = rw c.sums_with.ensures refl
