use Rattle.std.proofs.Common.{◌≡◌, ℕ, ◌≤◌, ◌<◌, Bool}
use Rattle.folds.specs.Below.{tally}
use Rattle.view.proofs.counted.Given as goal

abbrev pub invariant-loop-i : goal.invariant-loop-i
invariant-loop-i g l = (l.c ≤ l.i) × ((h : ℕ → Bool) → ((k : ℕ) (r : Bool) → k < l.n → goal.F-post g l.f k r → r ≡ h k) → l.c ≡ tally h l.i)
