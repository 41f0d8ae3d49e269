use Rattle.judging.proofs.Sheets.{refused-sheet}
use Rattle.joined_listing.specs.Text.{joined_text_of}
use Rattle.joined_listing.proofs.Cases.{listed-join}
use Rattle.joined_listing.proofs.list_joined.Goals as goal

pub returns-in-Ok : goal.returns-in-Ok
returns-in-Ok c =
    listed-join c.args.left.now c.args.right.now c.args.m _ _ _ c.in-Ok.sheet (λ k. (c.type_inv.left k).fits) (λ k. (c.type_inv.right k).fits) (rw c.in-Ok.is at c.read.ensures) c.write_sheet.ensures

pub returns-in-Err : goal.returns-in-Err
unfolding joined_text_of
returns-in-Err c = rw (refused-sheet _ c.in-Err.refusal (rw c.in-Err.is at c.read.ensures)) (rw c.number.ensures at c.write_refusal.ensures)
