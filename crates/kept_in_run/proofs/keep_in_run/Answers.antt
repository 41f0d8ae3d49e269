use mathlib.Core.Path.{sym, ◌∙◌}
use Rattle.refusals.proofs.Number.{handed-on}
use Rattle.kept_in_run.proofs.Cases.{when-full, takes, open-answer, open-run, refused-answer, refused-run, open-rows}
use Rattle.kept_in_run.proofs.keep_in_run.Goals as goal

pub returns-then-is_full : goal.returns-then-is_full
returns-then-is_full c =
    let a = c.args in
    let w = when-full a.run.now a.file.now a.rows.now (sym c.is_full.ensures ∙ c.if-is_full.true) in
    record { answer = w.0; run = w.1; rows = w.2 }

pub returns-in_err-kept : goal.returns-in_err-kept
returns-in_err-kept c =
    let a = c.args in
    let e = sym c.is_full.ensures ∙ c.if-is_full.false in
    let q = c.in_err-kept.ensures.kept in
    record {
      answer = handed-on _ _ c.from_residual.ensures.1 ∙ refused-answer a.run.now a.file.now a.rows.now e _ q;
      run = refused-run a.run.now a.file.now a.rows.now e _ q;
      rows = open-rows a.run.now a.file.now a.rows.now e c.in_err-kept.ensures.rows;
    }

pub with_sheet-requires : goal.with_sheet-requires
with_sheet-requires c =
    let a = c.args in
    takes a.run.now a.file.now a.rows.now (sym c.is_full.ensures ∙ c.if-is_full.false) c.in_ok-kept.kept c.in_ok-kept.ensures.kept

pub returns : goal.returns
returns c =
    let a = c.args in
    let e = sym c.is_full.ensures ∙ c.if-is_full.false in
    let q = c.in_ok-kept.ensures.kept in
    record {
      answer = open-answer a.run.now a.file.now a.rows.now e _ q;
      run = c.with_sheet.ensures ∙ open-run a.run.now a.file.now a.rows.now e c.in_ok-kept.kept q;
      rows = open-rows a.run.now a.file.now a.rows.now e c.in_ok-kept.ensures.rows;
    }
