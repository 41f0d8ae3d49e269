use Rattle.judging.proofs.Sheets.{refused-sheet}
use Rattle.sheet_map.specs.Text.{map_ruling_of, map_text_of}
use Rattle.sheet_map.proofs.Cases.{drawn}
use Rattle.sheet_map.proofs.draw_sheet.Goals as goal

pub returns-in-Ok : goal.returns-in-Ok
returns-in-Ok c =
    let p = c.of.ensures in
    rw (drawn c.args.file.now (λ k. (c.type_inv.file k).fits) c.in-Ok.sheet (rw c.in-Ok.is at c.read.ensures))
    at (rw (p.settings, p.count, p.keys, p.idx, p.x, p.y, p.strength) at c.draw.ensures)

pub returns-in-Err : goal.returns-in-Err
unfolding map_text_of map_ruling_of
returns-in-Err c = rw (refused-sheet _ c.in-Err.refusal (rw c.in-Err.is at c.read.ensures)) (rw c.number.ensures at c.write_refusal.ensures)
