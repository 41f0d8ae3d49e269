use Rattle.std.proofs.Common.{ℕ, ◌&&◌, eqb}
use lib.ListN.{replicate}
use Rattle.folds.specs.Below.{some}
use Rattle.folds.specs.Marked.{Marked}
use Rattle.view.specs.View.{max_points}
use Rattle.view.specs.Seen.{lattice_in}
use Rattle.marks.specs.Marks.{is_set}
use Rattle.marks.proofs.at_index.Given as goal

abbrev pub invariant-loop-k : goal.invariant-loop-k
invariant-loop-k l = Marked (λ (m : ℕ). some (λ (j : ℕ). is_set l.mark j && eqb ((lattice_in l.sheet.lattice).by_idx j) m) l.k) (replicate max_points 0) l.out
