use Rattle.std.proofs.Common.{◌∙◌}
use Rattle.view.specs.Seen.{lattice_in}
use Rattle.blame.specs.Marks.{evidence_in}
use Rattle.blame.proofs.Blamed.{by_rank, marked-of}
use Rattle.blame.proofs.marks.Goals as goal

pub returns : goal.returns
returns c xs ys =
    let v = c.args.sheet.now in by_rank (lattice_in v.lattice) (evidence_in c.args.evidence.now) v.lattice.few v.ranked.indices c.outliers-held.ensures c.mark_all_blamed.ensures (c.by_index.ensures 0) ∙ marked-of v.lattice.count v.lattice.ranks.now xs ys (evidence_in c.args.evidence.now)
