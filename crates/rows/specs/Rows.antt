-- "Rows come in cell order, by u, then v": the bytes of what is shown of each rank. Assumes nothing.
use Rattle.std.specs.Prelude.{Bool, List, [], ◌∷◌, ◌++◌, ℕ, ◌+◌, ◌*◌, ◌/◌, ◌%◌, get_or, Option, Some, None, is_some, Float}
use Rattle.std.specs.Float.{binary32}
use Rattle.std.specs.Float.Ieee.{to_bits}
use Rattle.folds.specs.Column.{overlaid}
use Rattle.folds.specs.Marked.{bit}
use Rattle.edge_shape.specs.Figures.{reason_number}
use Rattle.edge_shape.specs.declared.Measure.{Measure}
use Rattle.float.specs.declared.Distance.{Distance}
use Rattle.judged.specs.Shown.{Shown}
use Rattle.sheet_file.specs.Bytes.{little_endian}

-- ---- the floats

-- "Absent is zero; NaN is 0x7FC00000", the pattern that to_bits has for it
abbrev pub bits_of : Option Float → ℕ
bits_of None = 0
bits_of (Some x) = to_bits binary32 x

abbrev pub is_present : Option Float → Bool
is_present x = is_some x

-- the number of a residual
abbrev pub residual_float : Option Distance → Option Float
residual_float None = None
residual_float (Some d) = Some d.value

-- the least cosine and the largest ratio of a measure
abbrev pub cosine_of : Option Measure → Option Float
cosine_of None = None
cosine_of (Some m) = Some m.cosine

abbrev pub ratio_of : Option Measure → Option Float
ratio_of None = None
ratio_of (Some m) = Some m.ratio

-- "residual, least continuation cosine, largest continuation ratio, least cell cosine, largest cell ratio"
abbrev pub floats_of : Option Float → Option Measure → Option Measure → List (Option Float)
floats_of residual continuation cells = residual ∷ cosine_of continuation ∷ ratio_of continuation ∷ cosine_of cells ∷ ratio_of cells ∷ []

-- "Byte 2: which floats are present, from bit 0 in the order below."
abbrev pub presence : List (Option Float) → ℕ
presence [] = 0
presence (x ∷ l) = bit (is_present x) + 2 * presence l

-- "From byte 8, f32s"
abbrev pub float_bytes : List (Option Float) → List ℕ
float_bytes [] = []
float_bytes (x ∷ l) = little_endian (bits_of x) ++ float_bytes l

-- ---- a row

-- the 28 bytes: marks, reason, which floats are present; degree, box boundary, adjacent cells, valid cells, zero; the floats
unfoldable pub row_of : Shown → List ℕ
unfolding to_bits
row_of s =
    let f = s.figures in
    let floats = floats_of (residual_float s.residual) f.continuation f.cells in
    s.marks ∷ reason_number f.reason ∷ presence floats
    ∷ f.degree ∷ s.boundary ∷ f.adjacent ∷ f.valid ∷ 0
    ∷ float_bytes floats

-- ---- the rows of a sheet

-- the bytes of a row: "28 bytes per point"
abbrev pub row_size : ℕ
row_size = 28

-- byte i of the rows: byte i % 28 of row i / 28
unfoldable pub row_byte : (ℕ → Shown) → ℕ → ℕ
unfolding row_of
row_byte shown i = get_or (row_of (shown (i / row_size))) (i % row_size) 0

-- the buffer with the rows of n ranks, and what stood beyond them
unfoldable pub rows_over : ℕ → (ℕ → Shown) → List ℕ → List ℕ
unfolding overlaid
rows_over n shown buffer = overlaid (row_size * n) (row_byte shown) buffer
