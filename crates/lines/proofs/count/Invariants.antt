use Rattle.folds.specs.Scattered.{Scattered, one_more}
use Rattle.marks.specs.Marks.{is_set}
use Rattle.view.specs.Seen.{view_in}
use Rattle.lines.proofs.count.Given as goal

abbrev pub invariant-loop-k : goal.invariant-loop-k
invariant-loop-k l = Scattered 0 (view_in l.view).by_idx (is_set l.mark) one_more l.initial.flags l.k l.flags
