use Rattle.view.specs.Seen.{view_in}
use Rattle.wrong_label_filters.proofs.LineEnds.{all-ends}
use Rattle.wrong_label_filters.proofs.frontier.mark_frontier.Goals as goal

pub returns : goal.returns
returns c = all-ends (view_in c.args.view.now) c.mark_ends.ensures c.mark_ends-2.ensures
