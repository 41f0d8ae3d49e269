use Rattle.std.proofs.Common.{rules}
use Rattle.std.specs.Float.Ieee.{of_bits}
use Rattle.wrong_label_filters.specs.Windows.{edges_in}
use Rattle.wrong_label_filters.proofs.judged_edges.EdgesAlong.lengths.Goals as goal

pub returns : goal.returns
unfolding of_bits
returns c = c.filled.ensures (λ k. (edges_in c.args.self.now k).len) (λ k r h p. search rules)
