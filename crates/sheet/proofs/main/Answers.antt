-- The buffer has room for every text.
use Rattle.std.proofs.Common.{arith}
use Rattle.sheet_listing.proofs.Whole.{whole}
use Rattle.standard_output.proofs.Laws.{printable}
use Rattle.sheet.proofs.main.Goals as goal

pub run-requires-clause-whole : goal.run-requires-clause-whole
run-requires-clause-whole c file before r after bytes long same h = printable h (whole file.now _ _ _ bytes (omega arith) h) (omega arith)
