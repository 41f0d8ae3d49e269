-- One call in a run after the other. Assumes nothing.
use Rattle.std.specs.Prelude.{List, [], ◌∷◌, ℕ, length}
use Rattle.runs.specs.declared.Run.{Run}
use Rattle.kept.specs.Answer.{Answer}
use Rattle.kept_in_run.specs.InRun.{answer_in_run, run_after}

-- a file and a result buffer
pub record Call : Type 0 where
  pub file : List ℕ
  pub buffer : List ℕ

-- "in a record that a second form of the call takes and hands back": the record after these calls, each given the record that the call before it
-- handed back
unfoldable pub run_through : Run → List Call → Run
unfolding run_after
run_through r [] = r
run_through r (c ∷ l) = run_through (run_after r c.file (length c.buffer)) l

-- and what they answer
unfoldable pub answers_in : Run → List Call → List Answer
unfolding run_after answer_in_run
answers_in r [] = []
answers_in r (c ∷ l) = answer_in_run r c.file (length c.buffer) ∷ answers_in (run_after r c.file (length c.buffer)) l
