-- The loop: the sums from i on are as the whole.
use Rattle.std.specs.List.{list_any}
use mathlib.Core.Path.{◌≡◌}
use lib.Dec.{leb}
use lib.ListN.{drop}
use Rattle.runs.specs.Run.{sum_limit}
use Rattle.runs.proofs.is_full.Given as goal

abbrev pub invariant-loop-sum : goal.invariant-loop-sum
invariant-loop-sum l = list_any (leb sum_limit) (drop l.sum-index l.sum-items) ≡ list_any (leb sum_limit) l.sum-items
