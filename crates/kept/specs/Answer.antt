-- What the call answers and what it leaves in the result buffer, for any bytes and any buffer. Assumes nothing.
use Rattle.std.specs.Prelude.{List, ℕ, length, Result, Ok, Err}
use Rattle.std.proofs.Math.Option.{Option, none, some}
use Rattle.cells.specs.Points.{Point}
use Rattle.sheet_file.specs.declared.Settings.{Settings}
use Rattle.ruling.specs.Ruling.{Ruling, refused, accepted, ruling_of}
use Rattle.judged.specs.Shown.{shown_at}
use Rattle.judging.specs.Judging.{judged_for}
use Rattle.rows.specs.Rows.{rows_over}
use Rattle.kept.specs.declared.Counts.{Counts}
use Rattle.kept.specs.declared.Kept.{Kept}

-- the refusal number, or the counts
abbrev pub Answer : Type 0
Answer = Result Counts ℕ

-- the counts of points and of components, and "the number of rounds that removed something"
abbrev pub counts_for : Settings → List Point → Counts
counts_for s ps = record { points = length ps; components = (judged_for s ps).components; rounds = (judged_for s ps).rounds }

-- the numbers and values of document 01 for each ruling
abbrev pub answer_by : Ruling → Answer
answer_by (refused k) = Err k
answer_by (accepted s ps) = Ok (counts_for s ps)

-- the buffer afterwards: the rows, 28 bytes a point in cell order, and what stood beyond them; or what stood before, if refused
abbrev pub rows_by : List ℕ → Ruling → List ℕ
rows_by buffer (refused k) = buffer
rows_by buffer (accepted s ps) = rows_over (length ps) (shown_at (judged_for s ps)) buffer

-- the tally of an accepted sheet: "the tally counts indices"
abbrev pub tally_by : Ruling → Option (List ℕ)
tally_by (refused k) = none
tally_by (accepted s ps) = some (judged_for s ps).tally

-- on a file's bytes and a buffer
unfoldable pub answer_of : List ℕ → ℕ → Answer
unfolding ruling_of judged_for
answer_of file room = answer_by (ruling_of file room)

unfoldable pub rows_after : List ℕ → List ℕ → List ℕ
unfolding ruling_of judged_for shown_at rows_over
rows_after file buffer = rows_by buffer (ruling_of file (length buffer))

unfoldable pub tally_of : List ℕ → ℕ → Option (List ℕ)
unfolding ruling_of judged_for
tally_of file room = tally_by (ruling_of file room)

-- ---- for the code: answer and tally together

abbrev pub kept_by : Ruling → Result Kept ℕ
kept_by (refused k) = Err k
kept_by (accepted s ps) = Ok (record { counts = counts_for s ps; tally = (judged_for s ps).tally })

unfoldable pub kept_of : List ℕ → ℕ → Result Kept ℕ
unfolding ruling_of judged_for
kept_of file room = kept_by (ruling_of file room)
