use Rattle.std.proofs.Common.{◌≡◌, sym, ◌∙◌, arith}
use Rattle.folds.proofs.Scattered.{scattered-none, scattered-skip, scattered-put}
use Rattle.residuals.proofs.by_index.put_last.Goals as goal
use Rattle.residuals.proofs.by_index.put_last.Goals.{then-is_some, else-is_some}

pub loop-k-init : goal.loop-k-init
loop-k-init c = scattered-none _ _ _ _ _

pub loop-k-preserved : goal.loop-k-preserved
loop-k-preserved c =
    let r = c.args.view.now.sheet.ranked in
    elim c.if-is_some.branch [
      | then-is_some w ↦ rw w.held-is (scattered-put _ _ _ _ _ _ _ _ (omega (arith, w.index.ensures, r.few, r.indices c.loop-k.k c.loop-k-test.true)) w.index.ensures (sym c.is_some.ensures ∙ w.if-is_some.true) c.loop-k.invariant)
      | else-is_some w ↦ rw w.held-is (scattered-skip _ _ _ _ _ _ _ (sym c.is_some.ensures ∙ w.if-is_some.false) c.loop-k.invariant)
    ]

pub returns : goal.returns
returns c = let e : c.loop-k.k ≡ c.args.view.now.sheet.lattice.count = omega arith in rw e at c.loop-k.invariant
