use Rattle.std.proofs.Common.{refl, rules}
use Rattle.judged.specs.Judged.{judged_from}
use Rattle.sheet_listing.proofs.Cases.{listed}
use Rattle.sheet_listing.proofs.write_sheet.Goals as goal

pub judge_sheet-j-requires : goal.judge_sheet-j-requires
judge_sheet-j-requires c = (refl, refl)

pub returns : goal.returns
unfolding judged_from
returns c s ps sheet a =
    let r = c.args.sheet.now in
    let p = c.of-columns.ensures in
    let ranks = rw (p.count, p.keys, p.idx) at c.judge_sheet-j.ensures.ranks in
    let judged = rw (p.settings, p.count, p.keys, p.idx, p.x, p.y, p.strength) at c.judge_sheet-j.ensures.judged in
    let fills = rw (c.with_ranks.ensures, p.count, p.x, p.y) at c.fills-fills.ensures r.settings in
    rw (listed r s ps sheet a ranks judged fills) at (rw (p.count, p.keys, p.idx) at c.write_listing.ensures c.judge_sheet-j.new.figures (λ k r h p. search (rules, p)))
