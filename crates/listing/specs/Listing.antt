-- "What the program `sheet` prints". Assumes nothing.
use Rattle.std.specs.Prelude.{cond, ◌&&◌, List, [], ◌++◌, ℕ, ◌+◌, ◌*◌, eqb, leb, get_or, Option}
use Rattle.std.specs.Float.{binary32}
use Rattle.std.specs.Float.Ieee.{to_bits}
use Rattle.view.specs.View.{max_points}
use Rattle.cells.specs.Cell.{Cell}
use Rattle.float.specs.Remainder.{is_exact}
use Rattle.float.specs.declared.Distance.{Distance}
use Rattle.edge_shape.specs.Figures.{reason_number}
use Rattle.judged.specs.Shown.{Shown, shown_at}
use Rattle.judged.specs.Judged.{Judged}
use Rattle.marks.specs.Filters.{filter_at, filter_count}
use Rattle.marks.specs.Byte.{has_mark}
use Rattle.predict.specs.declared.PredictedPosition.{PredictedPosition}
use Rattle.predict.specs.Predict.{Prediction}
use Rattle.std.specs.Prelude.{None, Some}
use Rattle.text.specs.Text.{bytes, each, digit, decimal, whole, hex}

-- "u, v"
unfoldable pub cell_text : Cell → List ℕ
unfolding whole
cell_text c = whole c.u ++ bytes " " ++ whole c.v

-- "marks (VOWC)", with "letter L between W and C": the letter of each filter that has marked the point, else a dash
abbrev pub mark_text : ℕ → ℕ → List ℕ
mark_text marks f = cond (has_mark f marks) (bytes (filter_at f).letter) (bytes "-")

unfoldable pub marks_text : ℕ → List ℕ
unfolding each
marks_text marks = each (mark_text marks) filter_count

-- "reason 1 to 3 or a dash"
abbrev pub reason_text : ℕ → List ℕ
reason_text reason = cond (leb 1 reason && leb reason 3) (digit reason) (bytes "-")

-- "NaN is 0x7FC00000"; "the listing puts `=` directly after a residual whose remainder is 0"
unfoldable pub distance_text : Distance → List ℕ
unfolding hex to_bits
distance_text d = hex 8 (to_bits binary32 d.value) ++ cond (is_exact d) (bytes "=") []

-- "residual in eight hexadecimal digits with capitals or a dash"
abbrev pub residual_text : Option Distance → List ℕ
residual_text None = bytes "-"
residual_text (Some d) = distance_text d

unfoldable pub shown_text : ℕ → ℕ → Option Distance → List ℕ
unfolding marks_text distance_text
shown_text marks reason residual = marks_text marks ++ bytes " " ++ reason_text reason ++ bytes " " ++ residual_text residual

-- "Per point: u, v, index, marks (VOWC), reason 1 to 3 or a dash, residual in eight hexadecimal digits with capitals or a dash."
unfoldable pub line_text : Cell → ℕ → ℕ → ℕ → Option Distance → List ℕ
unfolding cell_text decimal shown_text
line_text cell index marks reason residual = cell_text cell ++ bytes " " ++ decimal index ++ bytes " " ++ shown_text marks reason residual ++ bytes "\n"

abbrev pub line_of : Cell → ℕ → Shown → List ℕ
line_of cell index s = line_text cell index s.marks (reason_number s.figures.reason) s.residual

-- "points 5 components 2"; "the first line of the listing ends with `rounds` and the number of rounds that removed something"
unfoldable pub head_text : ℕ → ℕ → ℕ → List ℕ
unfolding decimal
head_text n components rounds = bytes "points " ++ decimal n ++ bytes " components " ++ decimal components ++ bytes " rounds " ++ decimal rounds ++ bytes "\n"

abbrev pub count_text : ℕ → ℕ → List ℕ
count_text f count = bytes " " ++ bytes (filter_at f).word ++ bytes " " ++ decimal count

-- "kept 4 validate 0 orientation 0 wrong 0 component 1", with "`leaf` before `component`"
unfoldable pub tally_text : List ℕ → List ℕ
unfolding decimal each
tally_text counts =
    bytes "kept "
    ++ decimal (get_or counts filter_count 0)
    ++ each (λ f. count_text f (get_or counts f 0)) filter_count
    ++ bytes "\n"

-- a line for each of n ranks
abbrev pub lines_of : (ℕ → Cell) → List ℕ → Judged → ℕ → List ℕ
lines_of cell indices j n = each (λ k. line_of (cell k) (get_or indices k 0) (shown_at j k)) n

-- "u, v, pairs, x and y in hexadecimal bits, or u, v, 0"
unfoldable pub position_text : PredictedPosition → List ℕ
unfolding decimal hex to_bits
position_text p = decimal p.n_axis_pairs ++ bytes " " ++ hex 8 (to_bits binary32 p.x) ++ bytes " " ++ hex 8 (to_bits binary32 p.y)

abbrev pub prediction_text : Prediction → List ℕ
prediction_text None = bytes "0"
prediction_text (Some p) = position_text p

unfoldable pub fill_text : Cell → Prediction → List ℕ
unfolding cell_text position_text
fill_text cell fill = cell_text cell ++ bytes " " ++ prediction_text fill ++ bytes "\n"

-- "for each dropped cell": a point without a mark has no such line
abbrev pub fill_line : Cell → ℕ → Prediction → List ℕ
fill_line cell marks fill = cond (eqb marks 0) [] (fill_text cell fill)

-- "It is listed after the tally in cell order"
abbrev pub fill_lines : (ℕ → Cell) → List ℕ → List Prediction → ℕ → List ℕ
fill_lines cell marks fills n = each (λ k. fill_line (cell k) (get_or marks k 0) (get_or fills k None)) n

-- the first line, a line for each rank in cell order, the tally, and a line for each dropped one
unfoldable pub listing_of : ℕ → (ℕ → Cell) → List ℕ → Judged → List Prediction → List ℕ
unfolding head_text each line_text shown_at tally_text fill_text
listing_of n cell indices j fills =
    head_text n j.components j.rounds
    ++ lines_of cell indices j n
    ++ tally_text j.tally
    ++ fill_lines cell j.marks fills n

-- no line of a point is longer, no line of a dropped one, and no listing: the first line has at most 40 bytes (proved in proofs/Size.antt)
abbrev pub line_size : ℕ
line_size = 37 + filter_count

abbrev pub fill_line_size : ℕ
fill_line_size = 33

abbrev pub listing_size : ℕ
listing_size = 40 + line_size * max_points + (10 + 17 * filter_count) + fill_line_size * max_points
