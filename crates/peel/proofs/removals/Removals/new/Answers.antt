use Rattle.std.proofs.Common.{ℕ, arith}
use lib.ListN.{length-replicate}
use Rattle.folds.proofs.Column.{replicate-at}
use Rattle.view.specs.View.{max_points}
use Rattle.peel.proofs.removals.Removals.new.Goals as goal

pub invariant_of-result : goal.invariant_of-result
invariant_of-result c =
    record {
      queued = record {
        marks-long = length-replicate {A = ℕ} max_points 0;
        queue_long = length-replicate {A = ℕ} max_points 0;
        room = omega arith;
        marked = λ p h. absurd (omega arith);
        bits = λ k. omega (arith, replicate-at {A = ℕ} max_points 0 k);
      };
    }
