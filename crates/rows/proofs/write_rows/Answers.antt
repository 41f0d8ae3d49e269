use Rattle.std.proofs.Common.{arith, ◌≡◌, ◌∙◌, ap, ◌+◌, ◌-◌, ◌*◌, ◌≤◌, length}
use Rattle.judged.specs.Judged.{judged_from}
use Rattle.judged.specs.Shown.{shown_at}
use Rattle.folds.proofs.Column.{filled-over}
use Rattle.judged.proofs.Shown.{shown-is}
use Rattle.rows.specs.Rows.{row_of, row_size, rows_over}
use Rattle.rows.proofs.Laws.{fill-row}
use Rattle.rows.proofs.write_rows.Goals as goal

pub loop-k-preserved : goal.loop-k-preserved
loop-k-preserved c =
    let a = c.args in
    let k = c.loop-k.k in
    let room : row_size * k + row_size ≤ length a.rows.now = omega arith in
    let w : 28 * (k + 1) - 28 * k ≡ row_size = omega arith in
    let e = c.copy_from_slice.ensures.after ∙ c.row-shown.ensures ∙ ap row_of (shown-is a.j.now a.figures.now k) in
    rw (w, e) (fill-row a.rows.now (shown_at (judged_from a.j.now a.figures.now)) k room c.loop-k.invariant)

pub returns : goal.returns
unfolding rows_over
returns c =
    let e : c.loop-k.k ≡ c.args.n = omega arith in
    filled-over _ _ _ _ c.requires.1 (rw e at c.loop-k.invariant)
