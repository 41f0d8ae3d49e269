-- The wrong-label mark: some point with the index is an end of an edge that fails, is close to another point, or is an end of a line with a
-- kink there. Assumes nothing.
use Rattle.std.specs.Prelude.{Bool, ◌||◌, List, ℕ, Float}
use Rattle.folds.specs.Below.{some}
use Rattle.folds.specs.Column.{column}
use Rattle.folds.specs.Marked.{bit}
use Rattle.offsets.specs.Offsets.{next_u, next_v}
use Rattle.view.specs.View.{max_points, View, index_has}
use Rattle.edges.specs.Edges.{edge_at}
use Rattle.wrong_label_filters.specs.Judged.{end_of_failing, edge_mark}
use Rattle.close_pairs.specs.Close.{close_mark}
use Rattle.wrong_label_filters.specs.Frontier.{frontier_mark}

-- rank k is marked itself
unfoldable pub wrong_point : View → Float → ℕ → Bool
unfolding end_of_failing edge_at close_mark frontier_mark
wrong_point w cell k = edge_mark w next_u k || (edge_mark w next_v k || (close_mark w cell k || frontier_mark w k))

-- the wrong-label mark of rank k's index
unfoldable pub wrong_label_mark : View → Float → ℕ → Bool
unfolding wrong_point some
wrong_label_mark w cell k = index_has w (wrong_point w cell) k

unfoldable pub wrong_label_of : View → Float → List ℕ
unfolding column wrong_label_mark
wrong_label_of w cell = column max_points 0 w.count (λ k. bit (wrong_label_mark w cell k))
