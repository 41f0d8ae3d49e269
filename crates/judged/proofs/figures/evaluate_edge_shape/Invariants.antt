use Rattle.std.proofs.Common.{ℕ}
use Rattle.folds.specs.Column.{Filling}
use Rattle.view.specs.View.{View}
use Rattle.view.specs.Seen.{view_in}
use Rattle.edge_shape.specs.Figures.{figures_at, no_figures}
use Rattle.judged.specs.Judged.{blank_figures}
use Rattle.judged.proofs.figures.evaluate_edge_shape.Given as goal

abbrev pub invariant-loop-k : goal.invariant-loop-k
invariant-loop-k l = let w : View = view_in l.edges.view in Filling blank_figures no_figures (λ (j : ℕ). figures_at l.g w (w.by_idx j)) l.k l.figures
