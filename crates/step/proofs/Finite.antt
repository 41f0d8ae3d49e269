-- Steps and their median are finite, so the Rust's test that the median is positive and finite never fails. Assumes nothing.
use mathlib.Core.Path.{◌≡◌, refl}
use mathlib.Core.Bool.{Bool, true, false, cond, ◌&&◌}
use Rattle.std.specs.Prelude.{Option, Some, None}
use Prim.Native.Nat.{ℕ, ◌/◌, ◌<◌}
use native.Mathlib.Omega.{arith}
use lib.Dec.{eqb}
use lib.ListN.{length}
use lib.Ieee.{Float, nan, of_bits, lt}
use lib.Ieee.Scale.{finite}
use Rattle.float.specs.Constants.{zero}
use Rattle.folds.specs.Lists.{listed}
use Rattle.folds.proofs.Lists.{all_listed}
use Rattle.median.specs.Median.{median_of}
use Rattle.sort.specs.Sorted.{sort}
use Rattle.sort.proofs.Sorted.{sort-length, sort-all, all-at}
use Rattle.offsets.specs.Offsets.{prev_u, next_u, prev_v, next_v}
use Rattle.view.specs.View.{View}
use Rattle.step.specs.Step.{axis_step, mean_step, kept_step, local_step, step_at}
use Rattle.step.specs.Deviation.{steps_in}

kept-finite : (a : Option Float) → finite (kept_step a) ≡ true
unfolding kept_step of_bits
kept-finite None = refl
kept-finite (Some s) = go (lt zero s) (finite s) refl
  where
    go : (p f : Bool) → finite s ≡ f → finite (cond (p && f) s zero) ≡ true
    go true true e = e
    go true false e = refl
    go false f e = refl

-- each step is finite
pub step-finite : (w : View) (aware : Bool) (m : ℕ) → finite (step_at w aware m) ≡ true
unfolding step_at local_step of_bits
step-finite w aware m = go (aware && eqb (w.by_idx m) m) (local_step w m) (kept-finite (mean_step (axis_step w prev_u next_u m) (axis_step w prev_v next_v m)))
  where
    go : (b : Bool) (s : Float) → finite s ≡ true → finite (cond b s zero) ≡ true
    go true s e = e
    go false s e = refl

abbrev Sound : Float → Type 0
Sound s = (lt zero s ≡ true) × (finite s ≡ true)

-- the median of such steps is one of them
pub median-sound : (steps : ℕ → Float) (n : ℕ) → ((k : ℕ) → k < n → finite (steps k) ≡ true) → 0 < length (steps_in steps n)
    → (lt zero (median_of (steps_in steps n)) ≡ true) × (finite (median_of (steps_in steps n)) ≡ true)
unfolding steps_in median_of
median-sound steps n h some =
    let l = listed (λ (k : ℕ). lt zero (steps k)) steps n in
    all-at Sound nan (sort lt l) (sort-all lt Sound l (all_listed Sound (λ (k : ℕ). lt zero (steps k)) steps n (λ k g e. (e, h k g)))) (length l / 2) (omega (arith, sort-length lt l))
