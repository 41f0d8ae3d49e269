-- "in a record that a second form of the call takes and hands back": the answer, the record and the rows, for any bytes, any buffer and any
-- record. Assumes nothing.
use Rattle.std.specs.Prelude.{List, ℕ, Err}
use Rattle.refusals.specs.First.{ruled}
use Rattle.runs.specs.Run.{run_refusals, run_with}
use Rattle.runs.specs.declared.Run.{Run}
use Rattle.kept.specs.Answer.{Answer, answer_of, rows_after, tally_of}

-- "The run's call alone refuses with 11, before reading the file, any sheet if its record counts 65,535 or more accepted ones or has a new sum
-- of 2^31 or more"; else the call's answer
unfoldable pub answer_in_run : Run → List ℕ → ℕ → Answer
unfolding run_refusals answer_of
answer_in_run r file room = ruled Err (answer_of file room) (run_refusals r)

-- the record afterwards: one more sheet and each new sum up by the tally's number; "a refused sheet adds nothing"
unfoldable pub run_after : Run → List ℕ → ℕ → Run
unfolding run_with tally_of
run_after r file room = run_with r (tally_of file room)

-- the buffer afterwards: the rows; what stood before, if refused
unfoldable pub rows_in_run : Run → List ℕ → List ℕ → List ℕ
unfolding run_refusals rows_after
rows_in_run r file buffer = ruled (λ (k : ℕ). buffer) (rows_after file buffer) (run_refusals r)
