-- The positive numbers of an array, and their bit patterns, packed from the front of another. Assumes nothing.
use Rattle.std.specs.Prelude.{◌≡◌, Bool, cond, List, [], ◌∷◌, ◌++◌, map, ℕ, ◌+◌, ◌<◌, T, length, get_or, take, Float}
use Rattle.std.specs.Float.{nan, binary32}
use Rattle.std.specs.Float.Ieee.{lt, fits, to_bits, of_bits}
use Rattle.folds.specs.Arith.{zero_f}
use Rattle.folds.specs.Below.{tally}
use Rattle.folds.specs.Lists.{listed}
use Rattle.view.specs.View.{max_points}

-- the number at place k is above 0
abbrev pub positive_at : List Float → ℕ → Bool
positive_at v k = lt zero_f (get_or v k nan)

-- the positive ones among the first n, in their order
unfoldable pub positives : List Float → ℕ → List Float
unfolding listed lt of_bits
positives v n = listed (positive_at v) (λ (k : ℕ). get_or v k nan) n

-- the bit patterns of f32s, in their order
abbrev pub patterns : List Float → List ℕ
patterns l = map (to_bits binary32) l

-- after the number x, the first c of a have become the first r of b
pub record Put (x : Float) (c r : ℕ) (a b : List ℕ) : Type 0 where
  pub size : length b ≡ max_points
  pub count : r ≡ cond (lt zero_f x) (c + 1) c
  pub taken : take r b ≡ cond (lt zero_f x) (take c a ++ (to_bits binary32 x ∷ [])) (take c a)
  pub float : T (fits binary32 x)

-- the first c of b are the patterns of the positive ones below k
pub record Packed (v : List Float) (k c : ℕ) (b : List ℕ) : Type 0 where
  pub size : length b ≡ max_points
  pub count : c ≡ tally (positive_at v) k
  pub taken : take c b ≡ patterns (positives v k)
  pub float : (j : ℕ) → j < k → T (fits binary32 (get_or v j nan))
