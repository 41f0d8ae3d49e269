-- Lists by number: all f k, or the f k that pass a test, for k below n in rising order; and a fold over a list from its left end.
-- Assumes nothing.
use Rattle.std.specs.Prelude.{◌≡◌, Bool, cond, List, [], ◌∷◌, ◌++◌, ℕ, zero, suc, ◌≤◌, ◌<◌, get_or, take}

module _ {A : Type 0} where
  -- f at, .., f (at + n - 1)
  unfoldable pub up_from : (ℕ → A) → ℕ → ℕ → List A
  up_from f at zero = []
  up_from f at (suc n) = f at ∷ up_from f (suc at) n

  -- f 0, .., f (n - 1)
  unfoldable pub list_of : ℕ → (ℕ → A) → List A
  unfolding up_from
  list_of n f = up_from f 0 n

  -- the f k with p k, k below n, rising
  unfoldable pub listed : (ℕ → Bool) → (ℕ → A) → ℕ → List A
  listed p f zero = []
  listed p f (suc n) = cond (p n) (listed p f n ++ (f n ∷ [])) (listed p f n)

  -- each of a list has P
  abbrev pub All : (A → Type 0) → List A → Type 0
  All P [] = Unit {0}
  All P (a ∷ l) = P a × All P l

-- ---- the numbers that pass, kept in an array

-- the k below n with p k, rising
abbrev pub gather : (ℕ → Bool) → ℕ → List ℕ
gather p n = listed p (λ (k : ℕ). k) n

-- the array l holds, in its first c places, the k below n with p k
pub record Gathered (p : ℕ → Bool) (n : ℕ) (l : List ℕ) (c : ℕ) : Type 0 where
  pub few : c ≤ n
  pub held : take c l ≡ gather p n
  pub each : (i : ℕ) → i < c → get_or l i 0 < n
