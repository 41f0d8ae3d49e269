use Rattle.std.proofs.Common.{rules}
use Rattle.components.specs.Components.{others_by}
use Rattle.components.proofs.labelled.Labelled.others.Goals as goal

pub returns : goal.returns
unfolding others_by
returns c = c.filled.ensures _ (λ k r h p. search rules)
