-- An array after a loop in which each k with q k changes the element at its key by g k. What stands at m is a fold over the k whose key is m.
-- Assumes nothing.
use Rattle.std.specs.Prelude.{◌≡◌, Bool, cond, ◌&&◌, List, ℕ, ◌+◌, ◌<◌, eqb, ltb, length, get_or}
use Rattle.folds.specs.Below.{fold, turn}

-- k is for m
abbrev pub counts : (ℕ → ℕ) → (ℕ → Bool) → ℕ → ℕ → Bool
counts key q m k = eqb (key k) m && q k

module _ {A : Type 0} where
  pub record Scattered (d : A) (key : ℕ → ℕ) (q : ℕ → Bool) (g : ℕ → A → A) (a₀ : List A) (i : ℕ) (a : List A) : Type 0 where
    pub size : length a ≡ length a₀
    pub at : (m : ℕ) → m < length a₀ → get_or a m d ≡ fold (turn (counts key q m) g) (get_or a₀ m d) i

-- ---- counting and marking

abbrev pub one_more : ℕ → ℕ → ℕ
one_more k x = x + 1

-- ---- the largest

abbrev pub larger : (ℕ → ℕ) → ℕ → ℕ → ℕ
larger v k x = cond (ltb x (v k)) (v k) x
