use Rattle.std.proofs.Common.{rules}
use Rattle.wrong_label_filters.proofs.judged_edges.EdgesAlong.sheet_count.Goals as goal

pub returns : goal.returns
returns c = c.counted.ensures _ (λ k r h p. search rules)
