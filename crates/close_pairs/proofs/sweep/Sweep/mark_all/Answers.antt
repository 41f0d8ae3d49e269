use mathlib.Core.Path.{refl}
use Rattle.folds.specs.Below.{some}
use Rattle.folds.proofs.Marked.{marked-none, marked_more}
use Rattle.close_pairs.specs.Hits.{hits_from}
use Rattle.close_pairs.proofs.sweep.Sweep.mark_all.Goals as goal

pub loop-i-init : goal.loop-i-init
unfolding some
loop-i-init c = marked-none _ _ (λ m. refl)

pub loop-i-preserved : goal.loop-i-preserved
loop-i-preserved c = marked_more (hits_from c.args.self.now) c.loop-i.i c.loop-i.invariant c.mark_from.ensures
