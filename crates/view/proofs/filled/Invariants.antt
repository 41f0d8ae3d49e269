use Rattle.std.proofs.Common.{◌≡◌, ℕ, ◌<◌}
use Prim.Native.Nat.{ℕ}
use lib.ListN.{replicate}
use Rattle.folds.specs.Column.{Filling}
use Rattle.view.specs.View.{max_points}
use Rattle.view.proofs.filled.Given as goal

abbrev pub invariant-loop-k : goal.invariant-loop-k
invariant-loop-k g l = (h : ℕ → g.row.T.Denot) → ((k : ℕ) (r : g.row.T.Denot) → k < l.n → goal.F-post g l.f k r → r ≡ h k) → Filling (replicate max_points l.fn.rest) l.fn.rest h l.k l.out
