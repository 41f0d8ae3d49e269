use lib.Dec.{ltb}
use lib.Ieee.{of_bits}
use Rattle.float.specs.Constants.{duplicate_fraction}
use Rattle.float.proofs.Order.{mul-plain, above_zero}
use Rattle.folds.proofs.Marked.{marked-none, marked-as}
use Rattle.view.specs.View.{view_at}
use Rattle.close_pairs.specs.Close.{limit_of, close_mark}
use Rattle.close_pairs.proofs.Pairs.{sweepable, swept, nothing-close}
use Rattle.close_pairs.proofs.Squares.{reaches}
use Rattle.close_pairs.proofs.mark_close.Goals as goal
use Rattle.std.proofs.Math.Bool.{and-false}

pub invariant_of-sweep : goal.invariant_of-sweep
unfolding of_bits
invariant_of-sweep c =
    let p = c.requires in
    record {
      sweepable = sweepable _ _ _ _ p.0 c.order_of-order.ensures p.2 _;
      over = reaches _ (mul-plain duplicate_fraction c.args.cell tt (above_zero c.args.cell c.if-cell.true));
    }

pub returns-then-limit : goal.returns-then-limit
unfolding limit_of
returns-then-limit c =
    let g = c.args in
    λ ranks. marked-as _ _ (λ m l. swept _ g.seen.now.x.now g.seen.now.y.now g.n c.requires.0 c.order_of-order.ensures c.requires.2 ranks g.cell m c.if-cell.true) c.mark_all.ensures

pub returns-else-limit : goal.returns-else-limit
unfolding limit_of
returns-else-limit c =
    let g = c.args in
    λ ranks. marked-none _ _ (λ m. rw (nothing-close (view_at g.n ranks g.seen.now.x.now g.seen.now.y.now) g.cell m c.if-limit.false) (and-false (ltb m g.n)))

pub returns-else-cell : goal.returns-else-cell
unfolding close_mark
returns-else-cell c =
    λ ranks. marked-none _ _ (λ m. rw c.if-cell.false (and-false (ltb m c.args.n)))
