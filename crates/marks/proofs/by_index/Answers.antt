use Rattle.std.proofs.Common.{◌<◌, ℕ}
use Rattle.folds.proofs.Column.{column-at}
use Rattle.folds.specs.Marked.{bit}
use Rattle.view.specs.View.{max_points}
use Rattle.view.specs.Seen.{lattice_in}
use Rattle.view.proofs.Spread.{spread-column}
use Rattle.marks.specs.Marks.{place_has, index_marks}
use Rattle.marks.proofs.by_index.Goals as goal

pub returns : goal.returns
unfolding index_marks
returns c xs ys =
    let w = lattice_in c.args.sheet.now.lattice in
    let held : ℕ → ℕ = λ m. bit (place_has w c.args.mark.now m) in
    spread-column 0 w.count _ _ (c.by_index.ensures 0) (λ k h.
    let below : w.by_idx k < w.count = c.args.sheet.now.ranked.indices k h in
    rw (c.at_index.ensures, column-at max_points 0 w.count held (w.by_idx k) below))
