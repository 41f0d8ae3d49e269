use mathlib.Core.Path.{sym, ◌∙◌}
use Rattle.float.proofs.Nan.{nan_pattern, no-nan-pattern, nan-is}
use Rattle.float.proofs.from_bits.Goals as goal

pub returns-then-b-gt2139095040 : goal.returns-then-b-gt2139095040
returns-then-b-gt2139095040 c = nan-is ∙ sym (nan_pattern _ c.if-b-gt2139095040.true)

pub float_from_bits-result : goal.float_from_bits-result
float_from_bits-result c = no-nan-pattern _ c.if-b-gt2139095040.false
