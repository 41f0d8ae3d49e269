use lib.ListN.{get_or}
use lib.Ieee.{nan}
use Rattle.folds.specs.Arith.{◌⊖◌}
use Rattle.folds.proofs.Marked.{marked-none, marked-one, marked-as, marked-then}
use Rattle.close_pairs.specs.Close.{square_of}
use Rattle.close_pairs.proofs.Squares.{apart-in-y}
use Rattle.close_pairs.proofs.sweep.Sweep.mark_pair.Goals as goal

pub returns-then-self-abs : goal.returns-then-self-abs
returns-then-self-abs c =
    let s = c.args.self.now in
    let dy = get_or s.seen.now.y.now c.args.b nan ⊖ get_or s.seen.now.y.now c.args.a nan in
    marked-none _ _ (λ m. rw (apart-in-y s.side s.limit c.args.dx dy s.over (rw (← c.abs.ensures) c.if-self-abs.true)))

pub returns-then-dx-dy : goal.returns-then-dx-dy
unfolding square_of
returns-then-dx-dy c = marked-as _ _ (λ m l. rw c.if-dx-dy.true) (marked-then _ _ (marked-one _ _) (marked-one _ _))

pub returns-else-dx-dy : goal.returns-else-dx-dy
unfolding square_of
returns-else-dx-dy c = marked-none _ _ (λ m. rw c.if-dx-dy.false)
