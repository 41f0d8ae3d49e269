use Prim.Native.Nat.{ℕ, ◌<◌}
use mathlib.Core.Path.{◌≡◌}
use lib.ListN.{get_or}
use Rattle.folds.specs.Below.{some}
use Rattle.folds.specs.Marked.{Marked}
use Rattle.close_pairs.specs.Sweep.{pair_hits}
use Rattle.close_pairs.proofs.sweep.Sweep.mark_from.Given as goal

abbrev pub invariant-loop-j : goal.invariant-loop-j
invariant-loop-j l =
    let s = l.self in
    (l.i < l.j) × Marked (λ (m : ℕ). some (λ (p : ℕ). pair_hits s.order.now s.seen.now.x.now s.seen.now.y.now s.limit l.i p m) l.j) l.initial.mark l.mark × (l.a ≡ get_or s.order.now l.i 0)
