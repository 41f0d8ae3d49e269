-- The sheet of five points in document 01, and a row of three with strengths, each from the bytes of its file to the text that is printed, by
-- computation. Assumes nothing.
use Rattle.std.specs.Prelude.{◌≡◌, refl, Bool, true, List, [], ◌∷◌, ◌++◌, ℕ, replicate, Ok, Err}
use Rattle.sheet_file.specs.Bytes.{le16, le32}
use Rattle.sheet_file.specs.Frame.{field_at, points_from, gate_from, framing_of}
use Rattle.sheet_file.specs.Refusals.{edge_shape_of, fraction_of, settings_of, bad_flag, bad_float}
use Rattle.points.specs.Records.{points_in}
use Rattle.ruling.specs.Ruling.{ruling_of}
use Rattle.rows.specs.Rows.{row_byte}
use Rattle.kept.specs.Answer.{answer_of, rows_after}
use Rattle.stars.specs.Stars.{rules-compute}
use Rattle.text.specs.Text.{bytes}
use Rattle.sheet_listing.specs.Text.{text_of}
use Rattle.sheet_fills.specs.Answer.{fill_answer_of, fills_after}

-- "length-4 settings with cell size 100; points in this order: cell (5,5) index 14 at (500,500); (0,0) 10 at (0,0); (1,0) 11 at (100,0);
-- (0,1) 12 at (0,100); (1,1) 13 at (100,100)"
abbrev pub file : List ℕ
file =
    1 ∷ 4 ∷ 0 ∷ 0 ∷ 0 ∷ 200 ∷ 66
    ∷ 3 ∷ 100 ∷ 0
    ∷ 5 ∷ 0 ∷ 0 ∷ 0 ∷ 5 ∷ 0 ∷ 0 ∷ 0 ∷ 14 ∷ 0 ∷ 0 ∷ 0 ∷ 0 ∷ 0 ∷ 250 ∷ 67 ∷ 0 ∷ 0 ∷ 250 ∷ 67
    ∷ 0 ∷ 0 ∷ 0 ∷ 0 ∷ 0 ∷ 0 ∷ 0 ∷ 0 ∷ 10 ∷ 0 ∷ 0 ∷ 0 ∷ 0 ∷ 0 ∷ 0 ∷ 0 ∷ 0 ∷ 0 ∷ 0 ∷ 0
    ∷ 1 ∷ 0 ∷ 0 ∷ 0 ∷ 0 ∷ 0 ∷ 0 ∷ 0 ∷ 11 ∷ 0 ∷ 0 ∷ 0 ∷ 0 ∷ 0 ∷ 200 ∷ 66 ∷ 0 ∷ 0 ∷ 0 ∷ 0
    ∷ 0 ∷ 0 ∷ 0 ∷ 0 ∷ 1 ∷ 0 ∷ 0 ∷ 0 ∷ 12 ∷ 0 ∷ 0 ∷ 0 ∷ 0 ∷ 0 ∷ 0 ∷ 0 ∷ 0 ∷ 0 ∷ 200 ∷ 66
    ∷ 1 ∷ 0 ∷ 0 ∷ 0 ∷ 1 ∷ 0 ∷ 0 ∷ 0 ∷ 13 ∷ 0 ∷ 0 ∷ 0 ∷ 0 ∷ 0 ∷ 200 ∷ 66 ∷ 0 ∷ 0 ∷ 200 ∷ 66
    ∷ []

-- This name on an `unfolding` line opens every definition that a file is read by.
unfoldable pub file-computes : Bool
unfolding ruling_of framing_of gate_from points_from field_at le16 le32 bad_flag bad_float settings_of edge_shape_of fraction_of points_in
file-computes = true

-- the call's answer, with a buffer of 28 bytes a point
pub answered : answer_of file 140 ≡ Ok (record { points = 5; components = 2; rounds = 0 })
unfolding answer_of file-computes rules-compute
answered = refl

-- the text of document 01, with the columns of document 02: "Every listing has these and later such columns, document 01's example too."
abbrev pub shown : List ℕ
shown = bytes "points 5 components 2 rounds 0\n0 0 10 ----- - -\n0 1 12 ----- - -\n1 0 11 ----- - -\n1 1 13 ----- - -\n5 5 14 ----C - -\nkept 4 validate 0 orientation 0 wrong 0 leaf 0 component 1\n5 5 0\n"

-- what is printed of the file
pub printed : text_of file ≡ shown
unfolding text_of file-computes rules-compute
printed = refl

-- the rows that the call leaves in a buffer of 28 bytes a point, which held 255 throughout: the last has the component mark
pub rows_left : rows_after file (replicate 140 255) ≡ replicate 112 0 ++ 8 ∷ replicate 27 0
unfolding rows_after row_byte file-computes rules-compute
rows_left = refl

-- the fills that the call for them leaves in a buffer of 20 bytes a point: (5,5) is dropped and has no pair
pub fills-answered : (fill_answer_of file 100 ≡ Ok (record { points = 5; fills = 1 })) × (fill_answer_of file 99 ≡ Err 3)
unfolding fill_answer_of file-computes rules-compute
fills-answered = (refl, refl)

pub fills-left : (fills_after file (replicate 100 255) ≡ 5 ∷ 0 ∷ 0 ∷ 0 ∷ 5 ∷ replicate 15 0 ++ replicate 80 255) × (fills_after file (replicate 99 255) ≡ replicate 99 255)
unfolding fills_after file-computes rules-compute
fills-left = (refl, refl)

-- ---- a row of three with strengths

-- length-4 settings with cell size 7; cells (0,0), (1,0), (2,0) with indices 0, 1, 2 at (0,0), (7,0), (14,0); fraction 2, strengths 1, 1, 2
abbrev pub row_file : List ℕ
row_file =
    1 ∷ 4 ∷ 0 ∷ 0 ∷ 0 ∷ 224 ∷ 64
    ∷ 3 ∷ 60 ∷ 0
    ∷ 0 ∷ 0 ∷ 0 ∷ 0 ∷ 0 ∷ 0 ∷ 0 ∷ 0 ∷ 0 ∷ 0 ∷ 0 ∷ 0 ∷ 0 ∷ 0 ∷ 0 ∷ 0 ∷ 0 ∷ 0 ∷ 0 ∷ 0
    ∷ 1 ∷ 0 ∷ 0 ∷ 0 ∷ 0 ∷ 0 ∷ 0 ∷ 0 ∷ 1 ∷ 0 ∷ 0 ∷ 0 ∷ 0 ∷ 0 ∷ 224 ∷ 64 ∷ 0 ∷ 0 ∷ 0 ∷ 0
    ∷ 2 ∷ 0 ∷ 0 ∷ 0 ∷ 0 ∷ 0 ∷ 0 ∷ 0 ∷ 2 ∷ 0 ∷ 0 ∷ 0 ∷ 0 ∷ 0 ∷ 96 ∷ 65 ∷ 0 ∷ 0 ∷ 0 ∷ 0
    ∷ 4 ∷ 16 ∷ 0
    ∷ 0 ∷ 0 ∷ 0 ∷ 64
    ∷ 0 ∷ 0 ∷ 128 ∷ 63 ∷ 0 ∷ 0 ∷ 128 ∷ 63 ∷ 0 ∷ 0 ∷ 0 ∷ 64
    ∷ []

-- the call's answer: two rounds, the first two go one after the other
pub row-answered : answer_of row_file 84 ≡ Ok (record { points = 3; components = 1; rounds = 2 })
unfolding answer_of file-computes rules-compute
row-answered = refl

-- what is printed of it
pub row-printed : text_of row_file ≡ bytes "points 3 components 1 rounds 2\n0 0 0 ---L- - -\n1 0 1 ---L- - -\n2 0 2 ----- - -\nkept 1 validate 0 orientation 0 wrong 0 leaf 2 component 0\n0 0 0\n1 0 0\n"
unfolding text_of file-computes rules-compute
row-printed = refl

-- and the rows that the call leaves: "Its mark is bit 4"
pub row-rows-left : rows_after row_file (replicate 84 255) ≡ 16 ∷ replicate 27 0 ++ 16 ∷ replicate 55 0
unfolding rows_after row_byte file-computes rules-compute
row-rows-left = refl
