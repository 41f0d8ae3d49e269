-- One turn more of a loop, its end, what each step keeps, and a loop in two parts. Assumes nothing.
use Prim.Native.Nat.{ℕ, zero, suc, ◌+◌, ◌-◌, ◌<◌, ◌≤◌}
use native.Mathlib.Omega.{arith}
use mathlib.Core.Path.{◌≡◌, refl, sym, ◌∙◌}
use Rattle.folds.specs.Run.{up_to, run, down}

module _ {A : Type 0} where
  module _ (step : ℕ → A → A) where
    up_to-at : (n m i : ℕ) (a : A) → n ≡ suc m → up_to step n i a ≡ up_to step m (i + 1) (step i a)
    unfolding up_to
    up_to-at n m i a h = rw h

    pub run_step : (i e : ℕ) (a : A) → i < e → run step i e a ≡ run step (i + 1) e (step i a)
    unfolding run
    run_step i e a h = up_to-at (e - i) (e - (i + 1)) i a (omega arith)

    pub run-done : (i e : ℕ) (a : A) → e ≤ i → run step i e a ≡ a
    unfolding run up_to
    run-done i e a h = let z : e - i ≡ 0 = omega arith in rw z

    down-at : (n m : ℕ) (a : A) → n ≡ suc m → down step n a ≡ down step m (step m a)
    unfolding down
    down-at n m a h = rw h

    pub down_step : (n : ℕ) (a : A) → 0 < n → down step n a ≡ down step (n - 1) (step (n - 1) a)
    down_step n a h = down-at n (n - 1) a (omega arith)

    pub down-done : (n : ℕ) (a : A) → n ≤ 0 → down step n a ≡ a
    unfolding down
    down-done n a h = let z : n ≡ 0 = omega arith in rw z

  -- what each step keeps, the run keeps
  up_to-keeps : (P : ℕ → A → Type 0) (step : ℕ → A → A) (n i : ℕ) (a : A) → P i a → ((k : ℕ) → i ≤ k → k < i + n → (b : A) → P k b → P (k + 1) (step k b)) → P (i + n) (up_to step n i a)
  unfolding up_to
  up_to-keeps P step zero i a p h = let z : i + 0 ≡ i = omega arith in rw z p
  up_to-keeps P step (suc n) i a p h =
      let z : i + suc n ≡ i + 1 + n = omega arith in
      rw z (up_to-keeps P step n (i + 1) (step i a) (h i (omega arith) (omega arith) a p) (λ k l m b q. h k (omega arith) (omega arith) b q))

  pub run-keeps : (P : ℕ → A → Type 0) (step : ℕ → A → A) (i e : ℕ) (a : A) → i ≤ e → P i a → ((k : ℕ) → i ≤ k → k < e → (b : A) → P k b → P (k + 1) (step k b)) → P e (run step i e a)
  unfolding run
  run-keeps P step i e a l p h =
      let z : i + (e - i) ≡ e = omega arith in
      rw z at (up_to-keeps P step (e - i) i a p (λ k m o b q. h k m (omega arith) b q))

  -- the steps up to m, and then those from m on
  pub run-parts : (step : ℕ → A → A) (i m e : ℕ) (a : A) → i ≤ m → m ≤ e → run step m e (run step i m a) ≡ run step i e a
  run-parts step i m e a l h =
      run-keeps (λ k b. run step k e b ≡ run step i e a) step i m a l refl (λ k f g b q. sym (run_step step k e b (omega arith)) ∙ q)
