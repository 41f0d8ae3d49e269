-- The two ways along the lattice, and the offsets that lead on and back along each. Assumes nothing.
use Rattle.offsets.specs.Pair.{Offset}
use Rattle.offsets.specs.declared.axis.Axis.{Axis}
use Rattle.offsets.specs.declared.axis.Axis.TheVariants.{AlongU, AlongV}
use Rattle.offsets.specs.Offsets.{next_u, prev_u, next_v, prev_v}

-- the offset that leads on along a way
abbrev pub forward : Axis → Offset
forward AlongU = next_u
forward AlongV = next_v

-- the offset that leads back along it
abbrev pub back : Axis → Offset
back AlongU = prev_u
back AlongV = prev_v
