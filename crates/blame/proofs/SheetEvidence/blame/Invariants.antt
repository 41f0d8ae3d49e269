use Rattle.std.specs.List.{fold}
use Rattle.std.proofs.Common.{◌≡◌, ◌<◌, take}
use Rattle.std.specs.Prelude.{None, IfSome}
use Rattle.view.specs.Seen.{lattice_in}
use Rattle.blame.specs.Marks.{evidence_in, worse_of}
use Rattle.blame.proofs.SheetEvidence.blame.Given as goal

abbrev pub invariant-loop-p : goal.invariant-loop-p
invariant-loop-p l =
    (l.worst ≡ fold (worse_of (lattice_in l.self.sheet.lattice) (evidence_in l.self.evidence).flags l.k) None (take l.p-index l.p-items))
    × IfSome l.worst (λ w. w.at < l.self.sheet.lattice.count)
