use Rattle.std.proofs.Common.{ap, ◌∙◌}
use Rattle.std.proofs.lemmas.Float.{T_from_true}
use lib.Ieee.{binary32}
use lib.Ieee.Bits.{of_bits-to_bits}
use Rattle.sheet_file.specs.Limit.{outside}
use Rattle.joined.proofs.is_outside.Goals as goal

pub returns : goal.returns
returns c = c.is_outside_bits.ensures ∙ rw c.to_bits.ensures (ap outside (of_bits-to_bits binary32 c.args.x (T_from_true _ c.well_formed.0.1)))
