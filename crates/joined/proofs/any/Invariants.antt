use Rattle.std.proofs.Common.{◌≡◌, ℕ, ◌<◌, Bool, false}
use Rattle.folds.specs.Below.{some}
use Rattle.joined.proofs.any.Given as goal

abbrev pub invariant-loop-k : goal.invariant-loop-k
invariant-loop-k g l = (t : ℕ → Bool) → ((k : ℕ) (r : Bool) → k < l.n → goal.F-post g l.f k r → r ≡ t k) → some t l.k ≡ false
