-- A walk over two tables in the order of their wide keys: which numbers are still to come once it has passed so many points of each, and
-- what one step of it takes. Assumes nothing.
use Rattle.std.specs.Prelude.{◌≡◌, List, ◌∷◌, ℕ, ◌+◌, ◌-◌, ◌≤◌, ◌<◌}
use Rattle.folds.specs.Lists.{up_from}
use Rattle.merged.specs.Merged.{merged}
use Rattle.merged.specs.Sources.{source_key}
use Rattle.merged.specs.declared.halves.Halves.{Halves}
use Rattle.merged.specs.declared.Step.{Step}

-- the numbers from rank i of the left points and rank j of the right ones on
unfoldable pub rest_of : Halves → ℕ → ℕ → List ℕ
unfolding merged up_from source_key
rest_of h i j = merged (source_key h) (up_from (λ (k : ℕ). k) i (h.left.count - i)) (up_from (λ (k : ℕ). k) (h.left.count + j) (h.right.count - j))

-- s takes the first of them, and passes it
pub record Taken (h : Halves) (i j : ℕ) (s : Step) : Type 0 where
  pub first : rest_of h i j ≡ s.number ∷ rest_of h s.left s.right
  pub known : s.number < h.left.count + h.right.count
  pub left : s.left ≤ h.left.count
  pub right : s.right ≤ h.right.count
  pub further : i + j < s.left + s.right
