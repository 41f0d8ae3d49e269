use Rattle.folds.specs.Scattered.{one_more}
use Rattle.patches.proofs.Gathering.{AtLabels}
use Rattle.components.proofs.labelled.Labelled.sizes.Given as goal

abbrev pub invariant-loop-k : goal.invariant-loop-k
invariant-loop-k l = AtLabels 0 l.self.label l.self.count one_more l.k l.size
