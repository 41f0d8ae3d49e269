-- The pairs that the code's sweep compares. Assumes nothing.
use Rattle.std.specs.Prelude.{Bool, ℕ}
use Rattle.folds.specs.Below.{some}
use Rattle.close_pairs.specs.Sweep.{sweep_hits}
use Rattle.close_pairs.specs.declared.sweep.Sweep.{Sweep}

-- those of the rank at place i with the ranks that follow it
abbrev pub hits_from : Sweep → ℕ → ℕ → Bool
hits_from s i m = sweep_hits s.order.now s.seen.now.x.now s.seen.now.y.now s.limit s.count i m

-- all
abbrev pub hits_in : Sweep → ℕ → Bool
hits_in s m = some (λ i. hits_from s i m) s.count
