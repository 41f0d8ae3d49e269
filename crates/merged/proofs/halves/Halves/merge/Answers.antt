use Rattle.merged.proofs.Merging.{merge_start, merge_more, merge_done}
use Rattle.merged.proofs.halves.Halves.merge.Goals as goal

pub loop-step-init : goal.loop-step-init
loop-step-init c = merge_start _

pub loop-step-preserved : goal.loop-step-preserved
loop-step-preserved c = merge_more _ c.loop-step.invariant c.in-Some.ensures.some c.if-count-eq-MAX_POINTS.false

pub returns : goal.returns
returns c = merge_done _ c.loop-step.invariant c.in_default.ensures.none
