use Rattle.std.proofs.Common.{sym}
use Rattle.sheet_file.proofs.Fields.{framed-held}
use Rattle.sheet_file.proofs.read.Goals as goal

pub invariant_of-read : goal.invariant_of-read
invariant_of-read c = record { held = framed-held _ _ (sym c.in-Some.ensures) }
