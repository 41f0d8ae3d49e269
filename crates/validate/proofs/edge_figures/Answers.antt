use Rattle.std.proofs.Common.{◌∙◌}
use Rattle.view.specs.Seen.{view_in}
use Rattle.validate.proofs.Stages.{off-figures}
use Rattle.validate.proofs.edge_figures.Goals as goal

pub returns-in_default : goal.returns-in_default
returns-in_default c = let v = c.args.edges.now.view in c.requires ∙ off-figures (view_in v) c.in_default.is v.sheet.lattice.few
