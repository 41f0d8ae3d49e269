-- How far the ranks have been passed on the way to a target, and what the functions of the crate leave to each other.
use Rattle.std.specs.Prelude.{ℕ, ◌+◌, ◌*◌, ◌≤◌, ◌<◌, ◌^◌, eqb}
use Rattle.folds.specs.Below.{first}
use Rattle.view.specs.View.{ranks_size}
use Rattle.cells.specs.Points.{stride}

-- A rank stands at a target if its key plus this is the target.
abbrev pub key_centre : ℕ
key_centre = 2 * stride + 2

-- the first rank whose key, plus key_centre, is t; n where there is none
unfoldable pub standing : ℕ → (ℕ → ℕ) → ℕ → ℕ
unfolding first
standing n key t = first (λ (j : ℕ). eqb (key j + key_centre) t) 0 n

-- the ranks at the targets from `target` on
abbrev pub standing_from : ℕ → (ℕ → ℕ) → ℕ → ℕ → ℕ
standing_from n key target e = standing n key (target + e)

-- all ranks before p stand before the target
pub record Behind (n : ℕ) (key : ℕ → ℕ) (p target : ℕ) : Type 0 where
  pub within : p ≤ n
  pub before : (j : ℕ) → j < p → key j + key_centre < target

-- p is the first that does not
pub record Reached (n : ℕ) (key : ℕ → ℕ) (p target : ℕ) : Type 0 where
  pub behind : Behind n key p target
  pub stop : p < n → target ≤ key p + key_centre

-- five entries fit from `to` on
pub record FiveFit (target to : ℕ) : Type 0 where
  pub fit : to + 5 ≤ ranks_size
  pub small : target < 2 ^ 29
