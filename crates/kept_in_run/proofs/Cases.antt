-- The cases of the record and of what is kept, as the code meets them. Assumes nothing.
use mathlib.Core.Path.{◌≡◌, sym, ap, ◌∙◌}
use mathlib.Core.Bool.{true, false}
use mathlib.Core.List.{List}
use mathlib.Core.Option.{some}
use Prim.Native.Nat.{ℕ}
use lib.ListN.{length}
use Rattle.std.proofs.Common.{Ok, Err}
use Rattle.runs.specs.Run.{full, Takes, with_sheet, run_with}
use Rattle.runs.specs.declared.Run.{Run}
use Rattle.runs.proofs.Theorems.{after-sheet}
use Rattle.kept.specs.Answer.{rows_after, tally_of, kept_of}
use Rattle.kept.specs.declared.Kept.{Kept}
use Rattle.kept.proofs.Bounds.{tally-bounded}
use Rattle.kept.proofs.Cases.{answer-from, tally-from}
use Rattle.kept_in_run.specs.InRun.{answer_in_run, run_after, rows_in_run}
use Rattle.kept_in_run.proofs.Laws.{after_is, eleven, else-answer, else-rows, refused-record, refused-rows}

module _ (r : Run) (file buffer : List ℕ) where
  -- a full record refuses with 11 and stays, and so does the buffer
  pub when-full : full r ≡ true → (Err 11 ≡ answer_in_run r file (length buffer)) × (r ≡ run_after r file (length buffer)) × (buffer ≡ rows_in_run r file buffer)
  when-full e =
      let a = eleven r file buffer e in
      (sym a, sym (refused-record r file buffer 11 a), sym (refused-rows r file buffer 11 a))

  module _ (e : full r ≡ false) where
    -- one that is not full takes the tally of an accepted sheet
    module _ (k : Kept) (q : Ok k ≡ kept_of file (length buffer)) where
      tally-is : tally_of file (length buffer) ≡ some k.tally
      tally-is = tally-from file (length buffer) q

      pub takes : Takes r k.tally
      takes = record { room = e; small = tally-bounded file (length buffer) tally-is }

      pub open-answer : Ok k.counts ≡ answer_in_run r file (length buffer)
      open-answer = answer-from file (length buffer) q ∙ sym (else-answer r file buffer e)

      pub open-run : with_sheet r k.tally ≡ run_after r file (length buffer)
      open-run = sym (after_is r file (length buffer) ∙ ap (run_with r) tally-is ∙ (after-sheet r).accepted e k.tally)

    -- and with a refused one it stays
    module _ (n : ℕ) (q : Err n ≡ kept_of file (length buffer)) where
      pub refused-answer : Err n ≡ answer_in_run r file (length buffer)
      refused-answer = answer-from file (length buffer) q ∙ sym (else-answer r file buffer e)

      pub refused-run : r ≡ run_after r file (length buffer)
      refused-run = sym (refused-record r file buffer n (sym refused-answer))

    pub open-rows : {after : List ℕ} → after ≡ rows_after file buffer → after ≡ rows_in_run r file buffer
    open-rows q = q ∙ sym (else-rows r file buffer e)
