use Rattle.std.proofs.Common.{ap, ◌++◌, ◌∙◌, ℕ, List, get_or, arith}
use lib.ListN.{drop}
use Rattle.folds.specs.Column.{overlaid}
use Rattle.folds.proofs.Lists.{list_ext}
use Rattle.view.specs.Seen.{view_in}
use Rattle.float.specs.declared.Distance.{Distance}
use Rattle.std.specs.Prelude.{Option, None}
use Rattle.residuals.proofs.Indexing.{value-placed}
use Rattle.residuals.proofs.by_index.gather.Goals as goal

pub returns : goal.returns
unfolding overlaid
returns c =
    let v = c.args.view.now in
    let w = view_in v in
    let values = c.args.values.now in
    (c.spread.ensures None)
    ∙ ap (λ (l : List (Option Distance)). l ++ drop w.count values)
    (list_ext None w.count _ _ (λ k h. value-placed w (λ (j : ℕ). get_or values j None) c.put_last.ensures k (omega (arith, v.sheet.ranked.indices k h, v.sheet.lattice.few))))
