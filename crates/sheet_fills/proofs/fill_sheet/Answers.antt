use Rattle.std.proofs.Common.{refl}
use Rattle.refusals.proofs.Number.{handed-on}
use Rattle.judging.proofs.Sheets.{refused-sheet}
use Rattle.sheet_fills.specs.Answer.{fill_answer_of, fills_after}
use Rattle.sheet_fills.proofs.fill_sheet.Goals as goal

pub fill_read-requires : goal.fill_read-requires
fill_read-requires c = rw c.as_rows.ensures at c.in_ok-sheet.ensures

pub returns-in_err-sheet-clause-answer : goal.returns-in_err-sheet-clause-answer
unfolding fill_answer_of
returns-in_err-sheet-clause-answer c =
    rw (refused-sheet _ _ (rw c.as_rows.ensures at c.in_err-sheet.ensures)) (handed-on _ _ c.from_residual.ensures.1)

pub returns-in_err-sheet-clause-fills : goal.returns-in_err-sheet-clause-fills
unfolding fills_after
returns-in_err-sheet-clause-fills c = rw (refused-sheet _ _ (rw c.as_rows.ensures at c.in_err-sheet.ensures)) refl
