use lib.ListN.{get_or}
use Rattle.folds.specs.Scattered.{Scattered}
use Rattle.view.specs.Seen.{view_in}
use Rattle.std.specs.Prelude.{None, is_some}
use Rattle.residuals.proofs.by_index.put_last.Given as goal

abbrev pub invariant-loop-k : goal.invariant-loop-k
invariant-loop-k l = Scattered None (view_in l.view).by_idx (λ k. is_some (get_or l.values k None)) (λ k x. get_or l.values k None) l.initial.held l.k l.held
