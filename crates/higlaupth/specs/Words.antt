-- The record of a run as C holds it, in u32s: "its five old sums", the count of accepted sheets, the new sums. Assumes nothing.
use Rattle.std.specs.Prelude.{List, [], ◌∷◌, ◌++◌, ℕ, ◌+◌, length, get_or, Ok, Err}
use Rattle.folds.specs.Lists.{list_of}
use Rattle.runs.specs.Run.{summed, old_sums}
use Rattle.runs.specs.declared.Run.{Run}
use Rattle.kept.specs.Answer.{Answer}
use Rattle.kept_in_run.specs.InRun.{answer_in_run, run_after}
use Rattle.kept_in_run.specs.Through.{Call}

abbrev pub words_of : Run → List ℕ
words_of r = r.old_sums ++ (r.sheets ∷ r.new_sums)

unfoldable pub run_in : List ℕ → Run
unfolding list_of
run_in words =
    record {
      old_sums = list_of old_sums (λ (i : ℕ). get_or words i 0);
      sheets = get_or words old_sums 0;
      new_sums = list_of (length summed) (λ (i : ℕ). get_or words (old_sums + 1 + i) 0);
    }

-- the words after a call: those of the record with the sheet added, if it is accepted; else as they were
abbrev pub words_by : List ℕ → Run → Answer → List ℕ
words_by words run (Err k) = words
words_by words run (Ok c) = words_of run

unfoldable pub words_after : List ℕ → List ℕ → ℕ → List ℕ
unfolding run_in answer_in_run run_after
words_after words file room = words_by words (run_after (run_in words) file room) (answer_in_run (run_in words) file room)

-- after one call after the other, each given the words that the call before it left
unfoldable pub words_through : List ℕ → List Call → List ℕ
unfolding words_after
words_through words [] = words
words_through words (c ∷ l) = words_through (words_after words c.file (length c.buffer)) l
