-- Rows and columns as lines, and the last rank of each line, kept at the place of the line. The lines along u are the rows, those along v the
-- columns. Assumes nothing.
use Rattle.std.specs.Prelude.{◌≡◌, Bool, ◌||◌, List, ℕ, ◌<◌, eqb, length, get_or}
use Rattle.folds.specs.Below.{last}
use Rattle.view.specs.View.{View, max_points}
use Rattle.view.specs.Seen.{view_in}
use Rattle.offsets.specs.declared.axis.Axis.{Axis}
use Rattle.offsets.specs.declared.axis.Axis.TheVariants.{AlongU, AlongV}
use Rattle.offsets.specs.Axes.{forward, back}
use Rattle.wrong_label_filters.specs.Frontier.{last_in_line, end_mark}
use Rattle.wrong_label_filters.specs.declared.frontier.LinesAlong.{LinesAlong}

-- the first rank of rank k's line, which stands for the line
abbrev pub line_start : View → Axis → ℕ → ℕ
line_start w AlongU = w.row
line_start w AlongV = w.column

-- the same of the sheet and the axis that the code's struct holds
abbrev pub line_in : LinesAlong → ℕ → ℕ
line_in l = line_start (view_in l.view) l.axis

-- rank k is marked as the first or as the last of its line
unfoldable pub line_mark : View → Axis → ℕ → Bool
line_mark w axis k = end_mark w (line_start w axis) (forward axis) k || end_mark w (last_in_line w (line_start w axis)) (back axis) k

-- at the place of each line, the last of its ranks below n
pub record Lasts (line : ℕ → ℕ) (n : ℕ) (lasts : List ℕ) : Type 0 where
  pub size : length lasts ≡ max_points
  pub at : (m : ℕ) → m < max_points → get_or lasts m 0 ≡ last (λ (j : ℕ). eqb (line j) m) 0 n
