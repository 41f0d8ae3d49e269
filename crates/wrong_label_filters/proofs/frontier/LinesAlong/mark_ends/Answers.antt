use Rattle.std.proofs.Common.{◌≡◌, refl, arith}
use Rattle.folds.specs.Below.{some}
use Rattle.folds.proofs.Marked.{marked-none, marked-one, marked-as, marked_more}
use Rattle.view.specs.Seen.{view_in}
use Rattle.wrong_label_filters.specs.Lasts.{line_mark}
use Rattle.wrong_label_filters.proofs.LineEnds.{end-marks}
use Rattle.wrong_label_filters.proofs.frontier.LinesAlong.mark_ends.Invariants.{hits}
use Rattle.wrong_label_filters.proofs.frontier.LinesAlong.mark_ends.Goals as goal
use Rattle.wrong_label_filters.proofs.frontier.LinesAlong.mark_ends.Goals.{then-is_end, else-is_end}

pub loop-k-init : goal.loop-k-init
unfolding some
loop-k-init c = (marked-none _ _ (λ m. refl), c.lasts-lasts.ensures)

pub loop-k-preserved : goal.loop-k-preserved
loop-k-preserved c =
    let l = c.loop-k in (
      marked_more (hits (view_in c.args.self.now.view) c.args.self.now.axis) l.k l.invariant.0 (
          elim c.if-is_end.branch [
            | then-is_end w ↦ rw w.mark-is (marked-as _ _ (λ m g. rw (← c.is_end.ensures, w.if-is_end.true) refl) (marked-one l.k l.mark))
            | else-is_end w ↦ rw w.mark-is (marked-none _ _ (λ m. rw (← c.is_end.ensures, w.if-is_end.false)))
          ]
          ),
      l.invariant.1,
    )

pub returns : goal.returns
returns c =
    let n = c.args.self.now.view.sheet.lattice.count in
    let h : c.loop-k.k ≡ n = omega arith in
    end-marks (line_mark (view_in c.args.self.now.view) c.args.self.now.axis) n (rw h at c.loop-k.invariant.0)
