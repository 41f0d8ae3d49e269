use Rattle.std.proofs.Common.{rules}
use Rattle.components.specs.Components.{patch_count}
use Rattle.components.proofs.labelled.Labelled.patches.Goals as goal

pub returns : goal.returns
unfolding patch_count
returns c = c.counted.ensures _ (λ k r h p. search rules)
