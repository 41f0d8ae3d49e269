use Rattle.wrong_label_filters.specs.Lasts.{line_in, Lasts}
use Rattle.wrong_label_filters.proofs.frontier.LinesAlong.lasts.Given as goal

abbrev pub invariant-loop-k : goal.invariant-loop-k
invariant-loop-k l = Lasts (line_in l.self) l.k l.lasts
