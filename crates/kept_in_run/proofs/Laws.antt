-- The laws of one call in a run: what a full record and one that is not make of it, and what a refusal and an accepted sheet leave. Assumes
-- nothing.
use mathlib.Core.Path.{◌≡◌, refl, sym, ap, ◌∙◌}
use mathlib.Core.Bool.{Bool, true, false, cond}
use mathlib.Core.List.{List}
use mathlib.Core.Option.{none, some}
use Prim.Native.Nat.{ℕ}
use lib.ListN.{length}
use Rattle.std.proofs.Common.{Ok, Err}
use Rattle.refusals.proofs.Number.{err-no-ok}
use Rattle.runs.specs.Run.{full, with_sheet, run_with}
use Rattle.runs.specs.declared.Run.{Run}
use Rattle.runs.proofs.Theorems.{after-sheet}
use Rattle.judging.specs.Judging.{judged_for}
use Rattle.kept.specs.Answer.{tally_by, rows_by, answer_of, rows_after, tally_of}
use Rattle.kept.specs.declared.Counts.{Counts}
use Rattle.ruling.proofs.Given.{sheet-number}
use Rattle.kept.proofs.Bounds.{refused-ruling, accepted-ruling, refusal-listed}
use Rattle.kept_in_run.specs.InRun.{answer_in_run, run_after, rows_in_run}

module _ (r : Run) (file : List ℕ) where
  pub answer-is : (room : ℕ) → answer_in_run r file room ≡ cond (full r) (Err 11) (answer_of file room)
  unfolding answer_in_run
  answer-is room = refl

  pub after_is : (room : ℕ) → run_after r file room ≡ run_with r (tally_of file room)
  unfolding run_after
  after_is room = refl

  pub rows_are : (buffer : List ℕ) → rows_in_run r file buffer ≡ cond (full r) buffer (rows_after file buffer)
  unfolding rows_in_run
  rows_are buffer = refl

-- no sheet is refused with 11 by itself
pub never-eleven : (file : List ℕ) (room : ℕ) → answer_of file room ≡ Err 11 → ⊥
never-eleven file room e = (sheet-number 11 (refusal-listed file room e)).not-run refl

module _ (file : List ℕ) (room : ℕ) where
  -- a refused sheet has no tally, an accepted one has one
  refused-tally : {k : ℕ} → answer_of file room ≡ Err k → tally_of file room ≡ none
  unfolding tally_of
  refused-tally e = ap tally_by (refused-ruling file room e)

  pub accepted-tally : {c : Counts} → answer_of file room ≡ Ok c → (t : List ℕ) × (tally_of file room ≡ some t)
  unfolding tally_of
  accepted-tally e = let m = accepted-ruling file room e in ((judged_for m.settings m.points).tally, ap tally_by m.ruled)

refused-buffer : (file buffer : List ℕ) {k : ℕ} → answer_of file (length buffer) ≡ Err k → rows_after file buffer ≡ buffer
unfolding rows_after
refused-buffer file buffer e = ap (rows_by buffer) (refused-ruling file (length buffer) e)

module _ (r : Run) (file buffer : List ℕ) where
  abbrev room : ℕ
  room = length buffer

  pub eleven : full r ≡ true → answer_in_run r file room ≡ Err 11
  eleven e = answer-is r file room ∙ rw e

  pub else-answer : full r ≡ false → answer_in_run r file room ≡ answer_of file room
  else-answer e = answer-is r file room ∙ rw e

  pub else-rows : full r ≡ false → rows_in_run r file buffer ≡ rows_after file buffer
  else-rows e = rows_are r file buffer ∙ rw e

  pub eleven-only : answer_in_run r file room ≡ Err 11 → full r ≡ true
  eleven-only h = go (full r) refl
    where
      go : (b : Bool) → full r ≡ b → full r ≡ true
      go true q = q
      go false q = absurd (never-eleven file room (sym (else-answer q) ∙ h))

  pub refused-record : (k : ℕ) → answer_in_run r file room ≡ Err k → run_after r file room ≡ r
  refused-record k h = after_is r file room ∙ go (full r) refl
    where
      go : (b : Bool) → full r ≡ b → run_with r (tally_of file room) ≡ r
      go true q = (after-sheet r).when-full q (tally_of file room)
      go false q = ap (run_with r) (refused-tally file room (sym (else-answer q) ∙ h)) ∙ (after-sheet r).refused

  pub refused-rows : (k : ℕ) → answer_in_run r file room ≡ Err k → rows_in_run r file buffer ≡ buffer
  refused-rows k h = go (full r) refl
    where
      go : (b : Bool) → full r ≡ b → rows_in_run r file buffer ≡ buffer
      go true q = rows_are r file buffer ∙ rw q
      go false q = else-rows q ∙ refused-buffer file buffer (sym (else-answer q) ∙ h)

  pub sheet-added : (c : Counts) → answer_in_run r file room ≡ Ok c → (t : List ℕ) × (tally_of file room ≡ some t) × (run_after r file room ≡ with_sheet r t)
  sheet-added c h = go (full r) refl
    where
      go : (b : Bool) → full r ≡ b → (t : List ℕ) × (tally_of file room ≡ some t) × (run_after r file room ≡ with_sheet r t)
      go true q = absurd (err-no-ok (sym (eleven q) ∙ h))
      go false q = let t = accepted-tally file room (sym (else-answer q) ∙ h) in (t.0, t.1, after_is r file room ∙ ap (run_with r) t.1 ∙ (after-sheet r).accepted q t.0)
