-- Arrays as columns of a definition: f k for each k below n, and beyond n the value d that `get_or` gives past the end of a list. So what
-- is read of a column is what is read of the short list `list_of n f`, at every place and with no side condition.
-- `Filling` is the invariant of a loop that fills an array from its front. Assumes nothing.
use Rattle.std.specs.Prelude.{◌≡◌, ℕ, ◌-◌, ◌≤◌, ◌<◌, List, ◌++◌, length, get_or}
use Rattle.std.proofs.Math.ListN.{drop, replicate}
use Rattle.folds.specs.Lists.{list_of}

module _ {A : Type 0} where
  -- f k for k below n, then d up to the size
  unfoldable pub column : ℕ → A → ℕ → (ℕ → A) → List A
  unfolding list_of
  column size d n f = list_of n f ++ replicate (size - n) d

  -- f k for k below n, then what l has there
  unfoldable pub overlaid : ℕ → (ℕ → A) → List A → List A
  unfolding list_of
  overlaid n f l = list_of n f ++ drop n l

  -- the array l₀, filled up to i
  pub record Filling (l₀ : List A) (d : A) (f : ℕ → A) (i : ℕ) (l : List A) : Type 0 where
    pub long : length l ≡ length l₀
    pub done : (k : ℕ) → k < i → get_or l k d ≡ f k
    pub left : (k : ℕ) → i ≤ k → get_or l k d ≡ get_or l₀ k d
