use Prim.Native.Nat.{ℕ}
use native.Mathlib.Omega.{arith}
use Rattle.folds.proofs.Marked.{marked-none, marked-as, marked_more}
use Rattle.close_pairs.specs.Close.{close, square_of}
use Rattle.close_pairs.specs.Sweep.{pair_hits}
use Rattle.close_pairs.proofs.Pairs.{sweep-none, sweep-stop, pair_is}
use Rattle.close_pairs.proofs.sweep.Sweep.mark_from.Goals as goal

pub loop-j-init : goal.loop-j-init
loop-j-init c =
    let s = c.args.self.now in (omega arith, marked-none _ _ (λ m. sweep-none s.order.now s.seen.now.x.now s.seen.now.y.now s.limit s.count c.args.i m), c.from-a.ensures)

pub returns-then-self-dx : goal.returns-then-self-dx
returns-then-self-dx c =
    let l = c.loop-j in
    let s = c.args.self.now in
    let far = rw (c.from-b.ensures, l.invariant.2) at (s.over _ c.if-self-dx.true) in
    marked-as _ _ (λ m t. sweep-stop s.order.now s.seen.now.x.now s.seen.now.y.now s.limit s.count c.args.i s.sweepable l.j m l.invariant.0 c.loop-j-test.true far) l.invariant.1

pub loop-j-preserved : goal.loop-j-preserved
unfolding close square_of
loop-j-preserved c =
    let l = c.loop-j in
    let s = c.args.self.now in (
      omega arith,
      marked_more (λ (p m : ℕ). pair_hits s.order.now s.seen.now.x.now s.seen.now.y.now s.limit c.args.i p m) l.j l.invariant.1
          (marked-as _ _ (λ m t. rw (c.from-b.ensures, l.invariant.2) (pair_is s.order.now s.seen.now.x.now s.seen.now.y.now s.limit s.count c.args.i l.j m l.invariant.0)) c.mark_pair.ensures),
      l.invariant.2,
    )
