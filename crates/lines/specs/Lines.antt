-- What the functions ask for and keep on the way. Assumes nothing.
use Rattle.std.specs.Prelude.{◌≡◌, Bool, cond, List, ℕ, ◌+◌, ◌≤◌, ◌<◌, Option, None, length, get_or, set}
use Rattle.folds.specs.Below.{first}
use Rattle.view.specs.View.{max_points, value_at}
use Rattle.view.specs.Seen.{below}
use Rattle.lines.specs.Flags.{LineRule, is_on}
use Rattle.lines.specs.declared.Rule.{Rule}

-- what the code's rule holds points against
abbrev pub rule_in : Rule → LineRule
rule_in r = record { x = value_at r.seen.x.now; y = value_at r.seen.y.now; scale = value_at r.scale.now; tolerance = r.tolerance }

-- the members of a line are ranks
pub record Members (l : List ℕ) : Type 0 where
  pub few : length l ≤ max_points
  pub ranks : (i : ℕ) → i < length l → get_or l i 0 < max_points

-- `line` is the number of each rank's line, where `given k r` says that r was found for rank k; the numbers are ranks
pub record Numbered (n : ℕ) (given : ℕ → ℕ → Type 0) (line : ℕ → ℕ) : Type 0 where
  pub is : (k r : ℕ) → k < n → given k r → r ≡ line k
  pub inside : (k : ℕ) → k < n → line k < n

-- The ranks from i on are chained: each has the next rank on its line, if there is one, and each line its first rank from i on.
pub record Chained (n : ℕ) (line : ℕ → ℕ) (i : ℕ) (head next : List (Option ℕ)) : Type 0 where
  pub heads : (number : ℕ) → number < max_points → get_or head number None ≡ below n (first (is_on line number) i n)
  pub nexts : (k : ℕ) → i ≤ k → k < n → get_or next k None ≡ below n (first (is_on line (line k)) (k + 1) n)
  pub few : n ≤ max_points
  pub head-size : length head ≡ max_points
  pub next-size : length next ≡ max_points

-- sets the mark of rank k if f k
abbrev pub mark_if : (ℕ → Bool) → List ℕ → ℕ → List ℕ
mark_if f marks k = cond (f k) (set marks k 1) marks
