-- The buffer has room for every sheet.
use Rattle.std.proofs.Common.{arith}
use Rattle.worst_sheet.proofs.Size.{whole}
use Rattle.standard_output.proofs.Laws.{printable}
use Rattle.worst.proofs.print_sheet.Goals as goal

pub print-requires : goal.print-requires
print-requires g c = printable c.write_worst-written.ensures (whole c.args.argument.now _ _ _ (omega arith) c.write_worst-written.ensures) (omega arith)
