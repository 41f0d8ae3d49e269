-- The columns of `deviations`, by what its tests found. Assumes nothing.
use mathlib.Core.Path.{◌≡◌, refl, sym, ap, ◌∙◌}
use mathlib.Core.Bool.{true, false, ◌&&◌}
use mathlib.Core.List.{List}
use Prim.Native.Nat.{ℕ, ◌≤◌, ◌<◌}
use native.Mathlib.Omega.{arith}
use borrow.Author.Tests.{le-leb, lt-leb}
use lib.Dec.{leb}
use lib.ListN.{length, get_or, replicate}
use lib.Ieee.{Float, nan, lt}
use Rattle.float.specs.Constants.{zero}
use Rattle.folds.specs.Below.{tally}
use Rattle.folds.proofs.Lists.{listed-length}
use Rattle.folds.specs.Column.{column}
use Rattle.folds.proofs.Column.{column-ext, filled, replicate-at}
use Rattle.folds.specs.Marked.{bit}
use Rattle.median.specs.Median.{median_of}
use Rattle.median.specs.Packed.{positives}
use Rattle.step.specs.Deviation.{steps_in, is_step_outside, deviates}
use Rattle.std.proofs.Math.Bool.{and-false}

-- the steps that an array holds
abbrev held : List Float → ℕ → Float
held steps k = get_or steps k nan

steps-are : (steps : List Float) (n : ℕ) → positives steps n ≡ steps_in (held steps) n
unfolding positives steps_in
steps-are steps n = refl

steps-length : (steps : ℕ → Float) (n : ℕ) → length (steps_in steps n) ≡ tally (λ (k : ℕ). lt zero (steps k)) n
unfolding steps_in
steps-length steps n = listed-length (λ (k : ℕ). lt zero (steps k)) steps n

deviates-is : (steps : ℕ → Float) (n : ℕ) (t : Float) (m : ℕ) → deviates steps n t m ≡ lt zero t && (leb 3 (length (steps_in steps n)) && (lt zero (steps m) && is_step_outside (median_of (steps_in steps n)) t (steps m)))
unfolding deviates
deviates-is steps n t m = refl

module _ (steps : List Float) (size n : ℕ) (t : Float) (small : n ≤ size) where
  -- no step deviates
  none : ((m : ℕ) → deviates (held steps) n t m ≡ false) → replicate size 0 ≡ column size 0 n (λ (m : ℕ). bit (deviates (held steps) n t m))
  none h = filled n small (record { long = refl; done = λ k l. replicate-at {A = ℕ} size 0 k ∙ sym (ap bit (h k)); left = λ k l. refl })

  pub no-threshold : lt zero t ≡ false → replicate size 0 ≡ column size 0 n (λ (m : ℕ). bit (deviates (held steps) n t m))
  no-threshold h = none (λ m. deviates-is (held steps) n t m ∙ rw h)

  pub few-steps : {c : ℕ} → c ≡ tally (λ (k : ℕ). lt zero (held steps k)) n → c < 3 → replicate size 0 ≡ column size 0 n (λ (m : ℕ). bit (deviates (held steps) n t m))
  few-steps e h = none (λ m. deviates-is (held steps) n t m ∙ rw (lt-leb 3 (length (steps_in (held steps) n)) (omega (arith, steps-length (held steps) n))) (and-false (lt zero t)))

  pub judged : {c : ℕ} {median : Float} {r : List ℕ} → lt zero t ≡ true → c ≡ tally (λ (k : ℕ). lt zero (held steps k)) n → 3 ≤ c → median ≡ median_of (positives steps n)
      → r ≡ column size 0 n (λ (m : ℕ). bit (lt zero (held steps m) && is_step_outside median t (held steps m))) → r ≡ column size 0 n (λ (m : ℕ). bit (deviates (held steps) n t m))
  judged {c} {median} h e l d g =
      g
      ∙ column-ext size 0 n (λ (m : ℕ). bit (lt zero (held steps m) && is_step_outside median t (held steps m))) (λ (m : ℕ). bit (deviates (held steps) n t m))
      (λ m k. sym (ap bit (is m)))
    where
      is : (m : ℕ) → deviates (held steps) n t m ≡ lt zero (held steps m) && is_step_outside median t (held steps m)
      is m = deviates-is (held steps) n t m ∙ rw (h, le-leb 3 (length (steps_in (held steps) n)) (omega (arith, steps-length (held steps) n)), d, steps-are steps n)
