use Rattle.std.proofs.Common.{ap, ◌∙◌}
use lib.Ieee.{nan}
use Rattle.folds.specs.Column.{column}
use Rattle.view.specs.View.{View, max_points}
use Rattle.view.specs.Seen.{view_in}
use Rattle.cells.specs.Cell.{cells_at}
use Rattle.step.specs.Step.{step_at}
use Rattle.validate.proofs.Stages.{rules-are}
use Rattle.validate.proofs.by_rules.Goals as goal

pub returns : goal.returns
returns c =
    let s = c.args.s in
    let v = c.args.celled.now.view in
    let r = c.index_residuals-r.ensures in
    let steps = c.steps-steps.ensures ∙ ap (λ (w : View). column max_points nan w.count (step_at w s.use_step_aware)) c.points.ensures in
    record {
      marks = rules-are s (view_in v) (cells_at c.args.celled.now.keys.now) steps (c.scales-scales.ensures v.seen.x.now v.seen.y.now) c.line_flags-flags.ensures r.flags
          c.deviations-deviates.ensures (c.marks.ensures v.seen.x.now v.seen.y.now);
      residuals = r.residuals;
    }
