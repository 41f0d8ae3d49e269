use Rattle.std.proofs.lemmas.List.Sums.{fold_more}
use Rattle.std.specs.List.{fold}
use Rattle.std.proofs.Common.{rules, refl, ◌≡◌, [], arith}
use Rattle.std.specs.Prelude.{None}
use Rattle.view.specs.Seen.{lattice_in}
use Rattle.blame.specs.Marks.{evidence_in, place_in}
use Rattle.blame.proofs.Blamed.{members-there, blamed-by, place-inside}
use Rattle.blame.proofs.SheetEvidence.blame.Goals as goal

pub worse-worst-requires-clause-member : goal.worse-worst-requires-clause-member
worse-worst-requires-clause-member c =
    let v = c.args.self.now.sheet in members-there (lattice_in v.lattice) c.args.k (c.pick_local_h_base-base.ensures [] []) c.loop-p.p-index

pub loop-p-init : goal.loop-p-init
loop-p-init c = (refl, tt)

pub loop-p-preserved : goal.loop-p-preserved
loop-p-preserved c =
    (rw (fold_more _ _ c.pick_local_h_base-base.result c.loop-p.p-index None (omega arith), ← c.loop-p.invariant.0) c.worse-worst.ensures.value, c.worse-worst.ensures.inside)

pub returns : goal.returns
returns c =
    let v = c.args.self.now.sheet in
    let at : c.map.result ≡ place_in c.loop-p.worst = search rules in
    record {
      value = blamed-by (lattice_in v.lattice) (evidence_in c.args.self.now.evidence).flags c.args.k c.loop-p.p-index (c.pick_local_h_base-base.ensures [] []) (omega arith) c.loop-p.invariant.0 at;
      inside = rw at (place-inside v.lattice.count c.loop-p.worst c.loop-p.invariant.1);
    }
