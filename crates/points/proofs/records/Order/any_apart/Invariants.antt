use Rattle.std.proofs.Common.{◌≡◌, ℕ, ◌<◌, Bool, false, not}
use Rattle.folds.specs.Below.{some}
use Rattle.cells.specs.Points.{Point}
use Rattle.points.specs.Held.{nth, Ordered}
use Rattle.points.proofs.Clashes.{clashes_at}
use Rattle.points.proofs.records.Order.any_apart.Given as goal

abbrev pub invariant-loop-r : goal.invariant-loop-r
invariant-loop-r g l =
    let s = l.self.points in
    let n = s.layout.count in
    (key : Point → ℕ) (same : Point → Point → Bool) → Ordered l.self key
    → ((p q : ℕ) (r : Bool) → p < n → q < n → goal.F-post g l.apart p q r → r ≡ not (same (nth s p) (nth s q)))
    → some (clashes_at s.file.now s.layout key same) l.r ≡ false
