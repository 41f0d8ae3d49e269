-- What the call for the fills answers and what it leaves in the lent buffer, for any bytes and any buffer. Assumes nothing.
use Rattle.std.specs.Prelude.{ℕ, ◌*◌, ◌/◌, cond, List, [], ◌++◌, length, drop, nat_lt, Result, Ok, Err}
use Rattle.view.specs.View.{max_points}
use Rattle.cells.specs.Cell.{cells_of}
use Rattle.ruling.specs.Ruling.{Ruling, refused, accepted, ruling_of, rows_size}
use Rattle.judging.specs.Judging.{judged_for, fills_for}
use Rattle.rows.specs.Rows.{row_size}
use Rattle.sheet_fills.specs.Bytes.{fill_size, fills_bytes, dropped_count}
use Rattle.sheet_fills.specs.declared.FillCounts.{FillCounts}

-- A buffer too small is refused with 3, in the order of a sheet's numbers: a buffer counts as one with room for as many rows as it has room for
-- fills. The most points of a sheet are enough.
abbrev pub as_rows : ℕ → ℕ
as_rows room = cond (nat_lt (room / fill_size) max_points) (row_size * (room / fill_size)) rows_size

abbrev pub fill_ruling : List ℕ → ℕ → Ruling
fill_ruling file room = ruling_of file (as_rows room)

-- the refusal number, or how many points there are and how many are dropped
abbrev pub FillAnswer : Type 0
FillAnswer = Result FillCounts ℕ

abbrev pub fill_answer_by : Ruling → FillAnswer
fill_answer_by (refused k) = Err k
fill_answer_by (accepted s ps) = Ok (record { points = length ps; fills = dropped_count (judged_for s ps).marks (length ps) })

-- the fills of an accepted sheet
abbrev pub bytes_of : Ruling → List ℕ
bytes_of (refused k) = []
bytes_of (accepted s ps) = fills_bytes (cells_of ps) (judged_for s ps).marks (fills_for s ps) (length ps)

-- the buffer afterwards: the fills, 20 bytes for each dropped point in cell order, and what stood beyond them; or what stood before, if refused
abbrev pub fills_by : List ℕ → Ruling → List ℕ
fills_by buffer x = bytes_of x ++ drop (length (bytes_of x)) buffer

-- on a file's bytes and a buffer
unfoldable pub fill_answer_of : List ℕ → ℕ → FillAnswer
unfolding ruling_of judged_for dropped_count
fill_answer_of file room = fill_answer_by (fill_ruling file room)

unfoldable pub fills_after : List ℕ → List ℕ → List ℕ
unfolding ruling_of judged_for fills_for cells_of fills_bytes
fills_after file buffer = fills_by buffer (fill_ruling file (length buffer))
