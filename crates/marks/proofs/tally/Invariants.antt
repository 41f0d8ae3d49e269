use mathlib.Core.List.{[]}
use Prim.Native.Nat.{◌≤◌}
use Rattle.view.specs.View.{view_at}
use Rattle.marks.proofs.Counts.{Counted}
use Rattle.marks.proofs.tally.Given as goal

abbrev pub invariant-loop-k : goal.invariant-loop-k
invariant-loop-k l = (l.k ≤ l.lattice.count) × Counted (view_at l.lattice.count l.lattice.ranks.now [] []) l.marks l.k l.counts
