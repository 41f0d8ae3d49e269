use Rattle.std.proofs.Common.{refl}
use Rattle.refusals.proofs.Number.{handed-on}
use Rattle.judging.proofs.Sheets.{refused-sheet}
use Rattle.kept.specs.Answer.{rows_after, kept_of}
use Rattle.kept.proofs.Cases.{fit, kept-file, rows_file}
use Rattle.kept.proofs.keep_counted.Goals as goal

pub keep_sheet-requires : goal.keep_sheet-requires
keep_sheet-requires c = fit c.args.file.now c.args.rows.now (λ k. (c.type_inv.file k).fits) c.in_ok-sheet.sheet c.in_ok-sheet.ensures

pub returns-in_err-sheet-clause-kept : goal.returns-in_err-sheet-clause-kept
unfolding kept_of
returns-in_err-sheet-clause-kept c = rw (refused-sheet _ _ c.in_err-sheet.ensures) (handed-on _ _ c.from_residual.ensures.1)

pub returns-in_err-sheet-clause-rows : goal.returns-in_err-sheet-clause-rows
unfolding rows_after
returns-in_err-sheet-clause-rows c = rw (refused-sheet _ _ c.in_err-sheet.ensures) refl

pub returns-clause-kept : goal.returns-clause-kept
returns-clause-kept c = kept-file c.args.file.now c.args.rows.now (λ k. (c.type_inv.file k).fits) c.in_ok-sheet.sheet c.in_ok-sheet.ensures c.keep_sheet.ensures.kept

pub returns-clause-rows : goal.returns-clause-rows
returns-clause-rows c = rows_file c.args.file.now c.args.rows.now (λ k. (c.type_inv.file k).fits) c.in_ok-sheet.sheet c.in_ok-sheet.ensures c.keep_sheet.ensures.rows
