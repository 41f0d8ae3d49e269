use Rattle.sheet_file.proofs.Value.{inside-no-nan}
use Rattle.sheet_file.proofs.float_of.Goals as goal

pub float_from_bits-result : goal.float_from_bits-result
float_from_bits-result c = inside-no-nan _ c.requires
