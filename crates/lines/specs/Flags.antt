-- Which ranks their rows and their columns flag, and how many flags an index has. Assumes nothing.
use Rattle.std.specs.Prelude.{Bool, ◌&&◌, List, ℕ, ◌+◌, eqb, leb, length, Float}
use Rattle.std.specs.Float.Ieee.{lt, mul}
use Rattle.folds.specs.Arith.{◌⊗◌}
use Rattle.folds.specs.Below.{tally}
use Rattle.folds.specs.Lists.{listed, gather}
use Rattle.folds.specs.Scattered.{counts}
use Rattle.view.specs.View.{View}
use Rattle.lines.specs.Fit.{fit_of, distance_of}
use Rattle.lines.specs.declared.Line.{Line}

-- what a distance is held against: the positions, the scale of each rank's index, and the line tolerance
pub record LineRule : Type 0 where
  pub x : ℕ → Float
  pub y : ℕ → Float
  pub scale : ℕ → Float
  pub tolerance : Float

-- rank k is "farther than tolerance times scale" from a line
unfoldable pub is_far : LineRule → Line → ℕ → Bool
unfolding lt mul distance_of
is_far rule line k = lt (rule.tolerance ⊗ rule.scale k) (distance_of line (rule.x k) (rule.y k))

-- the line with the members l flags rank k
unfoldable pub flagged_by : LineRule → ℕ → List ℕ → ℕ → Bool
unfolding is_far fit_of
flagged_by rule minimum l k = leb minimum (length l) && is_far rule (fit_of rule.x rule.y l) k

-- the line with this number has rank k; a row or a column goes by its first rank
abbrev pub is_on : (ℕ → ℕ) → ℕ → ℕ → Bool
is_on line number k = eqb (line k) number

-- "Rows and columns with at least the line minimum flag each member farther than tolerance times scale": rank k is flagged by the line
-- of those of n ranks that are on its line, rising.
unfoldable pub is_flagged : LineRule → ℕ → (ℕ → ℕ) → ℕ → ℕ → Bool
unfolding listed flagged_by
is_flagged rule minimum line n k = flagged_by rule minimum (gather (is_on line (line k)) n) k

-- how many cells of the index at place m their lines flag; an index stands at the last of its ranks
unfoldable pub flag_count : (ℕ → ℕ) → LineRule → ℕ → (ℕ → ℕ) → ℕ → ℕ → ℕ
unfolding tally is_flagged
flag_count by_idx rule minimum line n m = tally (counts by_idx (is_flagged rule minimum line n) m) n

-- "a flag from any cell stays": the line flags of the index at place m, from the rows and the columns of all its cells
abbrev pub flags_at : View → (ℕ → Float) → Float → ℕ → ℕ → ℕ
flags_at w scale tolerance minimum m =
    let rule : LineRule = record { x = w.x; y = w.y; scale = scale; tolerance = tolerance } in
    flag_count w.by_idx rule minimum w.row w.count m + flag_count w.by_idx rule minimum w.column w.count m
