use Rattle.std.proofs.Common.{◌≡◌, ℕ, ◌<◌, Bool, false}
use Rattle.folds.specs.Below.{some}
use Rattle.cells.specs.Points.{Point}
use Rattle.points.specs.Records.{ith_point}
use Rattle.points.proofs.records.Points.any.Given as goal

abbrev pub invariant-loop-i : goal.invariant-loop-i
invariant-loop-i g l =
    (t : Point → Bool) → ((i : ℕ) (r : Bool) → i < l.self.layout.count → goal.F-post g l.fault i r → r ≡ t (ith_point l.self.file.now l.self.layout i))
    → some (λ (i : ℕ). t (ith_point l.self.file.now l.self.layout i)) l.i ≡ false
