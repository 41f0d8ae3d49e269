-- Marks, 0 or 1, kept at places of an array: what a test hits is set, and all else is as it was. The relation composes, so that filters
-- and loops that mark need no other invariant. Assumes nothing.
use Rattle.std.specs.Prelude.{◌≡◌, Bool, true, false, cond, List, ℕ, ◌<◌, length, get_or}

abbrev pub bit : Bool → ℕ
bit true = 1
bit false = 0

-- the marks a with those that hit names set are b
pub record Marked (hit : ℕ → Bool) (a b : List ℕ) : Type 0 where
  pub size : length b ≡ length a
  pub at : (m : ℕ) → m < length a → get_or b m 0 ≡ cond (hit m) 1 (get_or a m 0)
