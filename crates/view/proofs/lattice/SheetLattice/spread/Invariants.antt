use Rattle.std.proofs.Common.{ℕ, get_or}
use Rattle.folds.specs.Column.{Filling}
use Rattle.view.specs.Seen.{lattice_in}
use Rattle.view.proofs.lattice.SheetLattice.spread.Given as goal

abbrev pub invariant-loop-k : goal.invariant-loop-k
invariant-loop-k g l = (d : g.row.T.Denot) → Filling l.initial.out d (λ (k : ℕ). get_or l.held ((lattice_in l.self.lattice).by_idx k) d) l.k l.out
