use Rattle.view.specs.View.{max_points}
use Rattle.step.proofs.Deviating.{no-threshold, few-steps, judged}
use Rattle.step.proofs.deviations.Goals as goal
use Rattle.step.proofs.deviations.Goals.{else-t-via-then-t+else-how_many-ge3, else-t-via-else-t}

pub returns-then-how_many-ge3 : goal.returns-then-how_many-ge3
returns-then-how_many-ge3 c =
    judged c.args.steps.now.values.now max_points c.args.steps.now.count c.args.t c.args.steps.now.few c.if-t.true c.how_many.ensures c.if-how_many-ge3.true c.middle.ensures c.mark_outside.ensures

pub returns : goal.returns
returns c = elim c.else-t.branch [
  | else-t-via-then-t+else-how_many-ge3 w ↦ few-steps c.args.steps.now.values.now max_points c.args.steps.now.count c.args.t c.args.steps.now.few w.how_many.ensures w.if-how_many-ge3.false
  | else-t-via-else-t w ↦ no-threshold c.args.steps.now.values.now max_points c.args.steps.now.count c.args.t c.args.steps.now.few w.if-t.false
]
