use Rattle.std.proofs.Common.{refl, arith}
use Rattle.judged.specs.Judged.{judged_from}
use Rattle.kept.proofs.Cases.{kept-done, rows-done}
use Rattle.kept.proofs.keep_sheet.Goals as goal

pub judge-j-requires : goal.judge-j-requires
judge-j-requires c = refl

pub write_rows-requires : goal.write_rows-requires
write_rows-requires c = (omega (arith, c.before.before.before.before.judge-j.type_inv), c.requires)

pub returns-clause-kept : goal.returns-clause-kept
unfolding judged_from
returns-clause-kept c s ps sheet a =
    let p = c.of.ensures in
    kept-done c.args.rows.now c.args.sheet.now s ps sheet a (rw (p.settings, p.count, p.keys, p.idx, p.x, p.y, p.strength) at c.judge-j.ensures)

pub returns-clause-rows : goal.returns-clause-rows
unfolding judged_from
returns-clause-rows c s ps sheet a =
    let p = c.of.ensures in
    rows-done c.args.rows.now c.args.sheet.now s ps sheet a (rw (p.settings, p.count, p.keys, p.idx, p.x, p.y, p.strength) at c.judge-j.ensures) c.write_rows.ensures
