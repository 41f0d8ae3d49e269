use Rattle.std.proofs.Common.{◌<◌, arith}
use Rattle.folds.proofs.Scattered.{scattered-none, scattered-skip, scattered-put, counted-le}
use Rattle.view.specs.View.{max_points}
use borrow.Author.Tests.{eq-eqb, ne_eqb}
use Rattle.lines.proofs.count.Goals as goal
use Rattle.lines.proofs.count.Goals.{then-mark-k-eq1, else-mark-k-eq1}

pub loop-k-init : goal.loop-k-init
loop-k-init c = scattered-none _ _ _ _ _

-- each count has room for one more
pub overflow_add-flags : goal.overflow_add-flags
overflow_add-flags c =
    let r = c.args.view.now.sheet.ranked in
    let place : c.index.result < max_points = omega (arith, c.index.ensures, r.few, r.indices c.loop-k.k c.loop-k-test.true) in
    omega (arith, counted-le _ _ _ c.loop-k.k c.index.result c.loop-k.flags (omega (arith, place)) c.loop-k.invariant, c.requires c.index.result place, r.few)

pub loop-k-preserved : goal.loop-k-preserved
loop-k-preserved c =
    let r = c.args.view.now.sheet.ranked in
    elim c.if-mark-k-eq1.branch [
      | then-mark-k-eq1 w ↦ rw w.flags-is (scattered-put _ _ _ _ _ _ _ _ (omega (arith, w.index.ensures, r.few, r.indices c.loop-k.k c.loop-k-test.true)) w.index.ensures (eq-eqb _ 1 w.if-mark-k-eq1.true) c.loop-k.invariant)
      | else-mark-k-eq1 w ↦ rw w.flags-is (scattered-skip _ _ _ _ _ _ _ (ne_eqb _ 1 w.if-mark-k-eq1.false) c.loop-k.invariant)
    ]
