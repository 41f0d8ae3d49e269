use Rattle.median.proofs.Steps.{packed_none, packed_more}
use Rattle.median.specs.Packed.{positive_at}
use Rattle.folds.proofs.Below.{tally-le}
use Rattle.std.proofs.lemmas.List.{get_or-take}
use lib.Ieee.{nan}
use native.Mathlib.Omega.{arith}
use Rattle.median.proofs.pack.Goals as goal

pub loop-x-init : goal.loop-x-init
loop-x-init c = packed_none _ _ c.told-a

pub put-c-requires : goal.put-c-requires
put-c-requires c = omega (arith, c.loop-x.invariant.count, tally-le (positive_at c.args.v.now.values.now) c.loop-x.x-index)

pub loop-x-preserved : goal.loop-x-preserved
loop-x-preserved c =
    packed_more _ _ c.loop-x.invariant (rw (get_or-take c.args.v.now.count c.args.v.now.values.now c.loop-x.x-index nan (omega arith)) at c.put-c.ensures)

pub slice_bounds-result-end : goal.slice_bounds-result-end
slice_bounds-result-end c = omega (arith, c.loop-x.invariant.count, tally-le (positive_at c.args.v.now.values.now) c.loop-x.x-index)
