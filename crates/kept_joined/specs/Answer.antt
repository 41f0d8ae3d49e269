-- What the call on two halves answers and what it leaves in the result buffer, for any bytes, any move and any buffer: as for a sheet file, by
-- the ruling on both. Assumes nothing.
use Rattle.std.specs.Prelude.{List, ℕ, length}
use Rattle.kept.specs.Answer.{Answer, answer_by, rows_by}
use Rattle.joined.specs.Joined.{joined_ruling}
use Rattle.joined.specs.declared.moves.Move.{Move}

-- "The joined list is then read as a sheet": the refusal number, or the counts of the joined sheet
unfoldable pub joined_answer_of : List ℕ → List ℕ → Move → ℕ → Answer
unfolding joined_ruling
joined_answer_of left right m room = answer_by (joined_ruling left right m room)

-- the buffer afterwards
unfoldable pub joined_rows_after : List ℕ → List ℕ → Move → List ℕ → List ℕ
unfolding joined_ruling
joined_rows_after left right m buffer = rows_by buffer (joined_ruling left right m (length buffer))
