use Rattle.std.proofs.Common.{refl}
use Rattle.judged.specs.Judged.{judged_from}
use Rattle.sheet_fills.proofs.Cases.{fitted, done}
use Rattle.sheet_fills.proofs.fill_read.Goals as goal

pub judge_sheet-j-requires : goal.judge_sheet-j-requires
judge_sheet-j-requires c = (refl, refl)

pub unreachable-requires : goal.unreachable-requires
unfolding judged_from
unreachable-requires c =
    let a = c.args in
    let p = c.of-columns.ensures in
    let ranks = rw (p.count, p.keys, p.idx) at c.judge_sheet-j.ensures.ranks in
    let judged = rw (p.settings, p.count, p.keys, p.idx, p.x, p.y, p.strength) at c.judge_sheet-j.ensures.judged in
    let written = rw (p.count, p.keys, p.x, p.y) at c.write_fills.ensures in
    let fits = fitted a.file.now a.out.now (λ k. (c.type_inv.file k).fits) a.sheet.now c.requires ranks judged refl written in
    c.in_default.not-Ok _ fits.0

pub returns : goal.returns
unfolding judged_from
returns c =
    let a = c.args in
    let p = c.of-columns.ensures in
    let ranks = rw (p.count, p.keys, p.idx) at c.judge_sheet-j.ensures.ranks in
    let judged = rw (p.settings, p.count, p.keys, p.idx, p.x, p.y, p.strength) at c.judge_sheet-j.ensures.judged in
    let written = rw (p.count, p.keys, p.x, p.y) at c.write_fills.ensures in
    let d = done a.file.now a.out.now (λ k. (c.type_inv.file k).fits) a.sheet.now c.requires ranks judged refl written c.in-Ok.is in
    record { counts = d.0; fills = d.1 }
