use Rattle.std.proofs.Common.{ℕ}
use Rattle.folds.specs.Below.{some}
use Rattle.folds.specs.Marked.{Marked}
use Rattle.view.specs.Seen.{lattice_in}
use Rattle.blame.specs.Marks.{evidence_in, blames}
use Rattle.blame.proofs.SheetEvidence.mark_all_blamed.Given as goal

abbrev pub invariant-loop-k : goal.invariant-loop-k
invariant-loop-k l = Marked (λ (m : ℕ). some (λ (j : ℕ). blames (lattice_in l.self.sheet.lattice) (evidence_in l.self.evidence) j m) l.k) l.initial.out l.out
