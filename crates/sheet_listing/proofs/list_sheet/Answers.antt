use Rattle.judging.proofs.Sheets.{refused-sheet}
use Rattle.sheet_listing.specs.Text.{text_of}
use Rattle.sheet_listing.proofs.Cases.{listed-file}
use Rattle.sheet_listing.proofs.list_sheet.Goals as goal

pub returns-in-Ok : goal.returns-in-Ok
returns-in-Ok c = listed-file c.args.file.now _ _ _ c.in-Ok.sheet (λ k. (c.type_inv.file k).fits) (rw c.in-Ok.is at c.read.ensures) c.write_sheet.ensures

pub returns-in-Err : goal.returns-in-Err
unfolding text_of
returns-in-Err c = rw (refused-sheet _ c.in-Err.refusal (rw c.in-Err.is at c.read.ensures)) (rw c.number.ensures at c.write_refusal.ensures)
