use Rattle.std.proofs.Common.{◌≡◌, refl, arith, ℕ, ◌&&◌, eqb, eq-eqb, ne_eqb}
use Rattle.folds.specs.Below.{some}
use Rattle.folds.proofs.Below.{some-no}
use Rattle.folds.proofs.Marked.{marked-none, marked-one, marked-as, marked_more, marked-column}
use Rattle.view.specs.View.{max_points}
use Rattle.view.specs.Seen.{lattice_in}
use Rattle.marks.specs.Marks.{is_set, place_has}
use Rattle.marks.proofs.at_index.Goals as goal
use Rattle.marks.proofs.at_index.Goals.{then-mark-k-eq1, else-mark-k-eq1}
use Rattle.std.proofs.Math.Bool.{and-false}

pub loop-k-init : goal.loop-k-init
unfolding some
loop-k-init c = marked-none _ _ (λ m. refl)

pub loop-k-preserved : goal.loop-k-preserved
loop-k-preserved c =
    let a = c.args in
    marked_more (λ (j m : ℕ). is_set a.mark.now j && eqb ((lattice_in a.sheet.now.lattice).by_idx j) m) c.loop-k.k c.loop-k.invariant (
    elim c.if-mark-k-eq1.branch [
      | then-mark-k-eq1 w ↦ rw w.out-is (marked-as _ _ (λ m l. rw (eq-eqb _ _ w.if-mark-k-eq1.true, w.index.ensures) refl) (marked-one w.index.result c.loop-k.out))
      | else-mark-k-eq1 w ↦ rw w.out-is (marked-none _ _ (λ m. rw (ne_eqb _ _ w.if-mark-k-eq1.false)))
    ]
    )

pub returns : goal.returns
returns c =
    let a = c.args in
    let w = lattice_in a.sheet.now.lattice in
    let e : c.loop-k.k ≡ w.count = omega arith in
    marked-column (place_has w a.mark.now) max_points w.count a.sheet.now.lattice.few
    (λ m l. some-no _ w.count (λ k g. rw (ne_eqb (w.by_idx k) m (λ q. omega (arith, l, a.sheet.now.ranked.indices k g, q))) (and-false _)))
    (rw e at c.loop-k.invariant)
