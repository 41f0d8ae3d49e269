use Rattle.std.proofs.Common.{◌≡◌, ℕ, get_or, arith}
use Rattle.std.proofs.lemmas.List.{length-replicate}
use Rattle.folds.proofs.Column.{replicate-at}
use Rattle.folds.specs.Scattered.{one_more}
use Rattle.folds.proofs.Scattered.{counted-le}
use Rattle.view.specs.View.{max_points}
use Rattle.patches.proofs.Gathering.{labels-none, labels-put, labels-skip}
use Rattle.components.proofs.Tallies.{sizes-are}
use Rattle.components.proofs.labelled.Labelled.sizes.Goals as goal
use Rattle.components.proofs.labelled.Labelled.sizes.Goals.{then-s-self, else-s-self}

pub loop-k-init : goal.loop-k-init
loop-k-init c = labels-none 0 c.args.self.now.label c.args.self.now.count one_more

pub overflow_add-size : goal.overflow_add-size
overflow_add-size c =
    let a = c.args.self.now in
    let s = c.from-s.result in
    let room = length-replicate {A = ℕ} max_points 0 in
    omega (arith, counted-le (λ (k : ℕ). get_or a.label k 0) _ _ c.loop-k.k s _ (omega (arith, a.few)) c.loop-k.invariant, replicate-at {A = ℕ} max_points 0 s)

pub loop-k-preserved : goal.loop-k-preserved
loop-k-preserved c =
    let a = c.args.self.now in
    elim c.if-s-self.branch [
      | then-s-self w ↦ rw w.size-is (labels-put 0 a.label a.count one_more c.loop-k.k c.from-s.result a.few c.from-s.ensures w.if-s-self.true c.loop-k.invariant)
      | else-s-self w ↦ rw w.size-is (labels-skip 0 a.label a.count one_more c.loop-k.k c.from-s.result c.from-s.ensures w.if-s-self.false c.loop-k.invariant)
    ]

pub returns : goal.returns
returns c =
    let a = c.args.self.now in
    let e : c.loop-k.k ≡ a.count = omega arith in
    sizes-are a.label a.count _ a.few (rw e at c.loop-k.invariant)
