use Rattle.sheet_file.proofs.Value.{outside-pattern}
use mathlib.Core.Path.{sym}
use Rattle.sheet_file.proofs.is_outside_bits.Goals as goal

pub returns : goal.returns
returns c =
    sym (outside-pattern _)
