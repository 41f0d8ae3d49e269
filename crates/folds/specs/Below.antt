-- The words for the numbers below n: a fold that says what is done so far, some k, every k, how many k, a sum of f32 left to right, the
-- first k and the last k. Assumes nothing.
use Rattle.std.specs.Prelude.{Bool, true, false, cond, ◌||◌, ◌&&◌, ℕ, zero, suc, ◌+◌, ◌-◌, Float}
use Rattle.folds.specs.Arith.{◌⊕◌, zero_f}

-- ---- the fold that says what is done so far

module _ {A : Type 0} where
  -- step (n - 1) (.. (step 0 a))
  unfoldable pub fold : (ℕ → A → A) → A → ℕ → A
  fold step a zero = a
  fold step a (suc n) = step n (fold step a n)

  -- a turn that counts only where a test passes
  abbrev pub turn : (ℕ → Bool) → (ℕ → A → A) → ℕ → A → A
  turn p g k x = cond (p k) (g k x) x

-- ---- some, every, how many

-- some k below n has p k
unfoldable pub some : (ℕ → Bool) → ℕ → Bool
some p zero = false
some p (suc n) = some p n || p n

-- every k below n has p k
unfoldable pub every : (ℕ → Bool) → ℕ → Bool
every p zero = true
every p (suc n) = every p n && p n

-- how many k below n have p k
unfoldable pub tally : (ℕ → Bool) → ℕ → ℕ
tally p zero = 0
tally p (suc n) = cond (p n) (tally p n + 1) (tally p n)

-- the f32 sum, from 0 on and left to right, of the f k with p k, k below n
unfoldable pub sum_of : (ℕ → Bool) → (ℕ → Float) → ℕ → Float
sum_of p f zero = zero_f
sum_of p f (suc n) = cond (p n) (sum_of p f n ⊕ f n) (sum_of p f n)

-- ---- the first and the last

-- of m places from i on the first with p, else the place after them
unfoldable pub first_in : (ℕ → Bool) → ℕ → ℕ → ℕ
first_in p zero i = i
first_in p (suc m) i = cond (p i) i (first_in p m (i + 1))

-- the first k from i on and below n with p k, or n where there is none (i where i is past n)
unfoldable pub first : (ℕ → Bool) → ℕ → ℕ → ℕ
unfolding first_in
first p i n = first_in p (n - i) i

-- the last k below n with p k, or d where there is none
unfoldable pub last : (ℕ → Bool) → ℕ → ℕ → ℕ
last p d zero = d
last p d (suc n) = cond (p n) n (last p d n)
