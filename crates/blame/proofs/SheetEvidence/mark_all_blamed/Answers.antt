use Rattle.std.proofs.Common.{◌≡◌, arith}
use Rattle.folds.proofs.Below.{some-none}
use Rattle.folds.proofs.Marked.{marked-none, marked_more}
use Rattle.view.specs.Seen.{lattice_in}
use Rattle.blame.specs.Marks.{evidence_in, blames}
use Rattle.blame.proofs.SheetEvidence.mark_all_blamed.Goals as goal

pub loop-k-init : goal.loop-k-init
loop-k-init c = marked-none _ _ (λ m. some-none _)

pub loop-k-preserved : goal.loop-k-preserved
loop-k-preserved c = marked_more (blames (lattice_in c.args.self.now.sheet.lattice) (evidence_in c.args.self.now.evidence)) c.loop-k.k c.loop-k.invariant c.mark_blamed.ensures

pub returns : goal.returns
returns c = let e : c.loop-k.k ≡ c.args.self.now.sheet.lattice.count = omega arith in rw e at c.loop-k.invariant
