use lib.Ieee.{le, of_bits}
use Rattle.float.specs.Scalar.{clamp_of}
use Rattle.float.proofs.clamp.Goals as goal

pub clamp-requires : goal.clamp-requires
unfolding le of_bits
clamp-requires c = tt

pub returns : goal.returns
unfolding clamp_of
returns c = c.clamp.ensures.value
