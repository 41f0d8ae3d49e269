-- The pairs that a sweep along an order of the ranks compares. Assumes nothing.
use Rattle.std.specs.Prelude.{◌≡◌, Bool, true, false, ◌&&◌, ◌||◌, List, ℕ, ◌≤◌, ◌<◌, eqb, ltb, get_or, Float}
use Rattle.std.specs.Float.{nan}
use Rattle.std.specs.Float.Ieee.{lt}
use Rattle.folds.specs.Arith.{◌⊖◌, ◌⊗◌}
use Rattle.folds.specs.Below.{some}
use Rattle.view.specs.View.{max_points}
use Rattle.close_pairs.specs.Close.{close}

abbrev pub close_in : List Float → List Float → Float → ℕ → ℕ → Bool
close_in xs ys limit = close (λ k. get_or xs k nan) (λ k. get_or ys k nan) limit

-- the square of the difference in x alone
abbrev pub square_x : List Float → ℕ → ℕ → Float
square_x xs j k = (get_or xs j nan ⊖ get_or xs k nan) ⊗ (get_or xs j nan ⊖ get_or xs k nan)

-- places i and j, i before j, hold close ranks, and m is one of them
unfoldable pub pair_hits : List ℕ → List Float → List Float → Float → ℕ → ℕ → ℕ → Bool
pair_hits order xs ys limit i j m =
    ltb i j && (close_in xs ys limit (get_or order j 0) (get_or order i 0) && (eqb (get_or order i 0) m || eqb (get_or order j 0) m))

abbrev pub sweep_hits : List ℕ → List Float → List Float → Float → ℕ → ℕ → ℕ → Bool
sweep_hits order xs ys limit n i m = some (λ j. pair_hits order xs ys limit i j m) n

-- a difference over the side has a square that is not under the limit
abbrev pub OverSide : Float → Float → Type 0
OverSide side limit = (d : Float) → lt side d ≡ true → lt (d ⊗ d) limit ≡ false

-- The order is one along which a sweep may stop: where the square in x alone reaches the limit, nothing later is close.
pub record Sweepable (order : List ℕ) (xs ys : List Float) (limit : Float) (n : ℕ) : Type 0 where
  pub few : n ≤ max_points
  pub ranks : (k : ℕ) → k < n → get_or order k 0 < n
  pub stop : (i j k : ℕ) → i < j → j ≤ k → k < n → lt (square_x xs (get_or order j 0) (get_or order i 0)) limit ≡ false → close_in xs ys limit (get_or order k 0) (get_or order i 0) ≡ false
