-- Counting loops as folds that say what is still to be done: `run step i e a` takes a through step i, .., step (e - 1), and
-- `down step n a` takes it through step (n - 1), .., step 0. A loop's invariant is "what is left from here equals the whole".
-- Assumes nothing.
use Rattle.std.specs.Prelude.{ℕ, zero, suc, ◌+◌, ◌-◌}

module _ {A : Type 0} where
  -- n steps, the first of them step i
  unfoldable pub up_to : (ℕ → A → A) → ℕ → ℕ → A → A
  up_to step zero i a = a
  up_to step (suc n) i a = up_to step n (i + 1) (step i a)

  unfoldable pub run : (ℕ → A → A) → ℕ → ℕ → A → A
  unfolding up_to
  run step i e a = up_to step (e - i) i a

  unfoldable pub down : (ℕ → A → A) → ℕ → A → A
  down step zero a = a
  down step (suc n) a = down step n (step n a)
