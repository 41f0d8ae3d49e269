use mathlib.Core.Path.{sym, ◌∙◌}
use lib.Ieee.{to_bits}
use Rattle.float.proofs.Nan.{only_nan}
use Rattle.float.proofs.to_bits.Goals as goal

pub returns-then-is_nan : goal.returns-then-is_nan
unfolding to_bits
returns-then-is_nan c = let e = only_nan _ (sym c.is_nan.ensures.value ∙ c.if-is_nan.true) in rw e
