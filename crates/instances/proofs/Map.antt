-- "A map on one page": its lines, its numbers and its characters, of small files, one with strengths; another order; and of files without the
-- conditions. Assumes nothing.
use Rattle.std.specs.Prelude.{Some}
use mathlib.Core.Path.{◌≡◌, refl, sym, ap, ◌∙◌}
use mathlib.Core.Bool.{true, false}
use mathlib.Core.Logic.{inl, inr}
use mathlib.Core.List.Permᴰ
use mathlib.Core.List.{List, [], ◌∷◌, ◌++◌, Permᴰ}
use Prim.Native.Nat.{ℕ, ◌+◌, ◌*◌, ◌<◌}
use native.Mathlib.Omega.{arith}
use lib.IntN.{ℤ, pos, negsuc, nat_abs, ◌+ℤ◌}
use lib.ListN.{length, get_or, length-append}
use Rattle.folds.proofs.Below.{first-before}
use Rattle.cells.specs.Points.{Point}
use Rattle.cells.specs.Cell.{Cell, cells_of}
use Rattle.cells.proofs.Edges.{cell_at}
use Rattle.sheet_file.specs.Bytes.{Bytes}
use Rattle.sheet_file.specs.Frame.{framing_of, layout_of}
use Rattle.sheet_file.specs.declared.Layout.{Layout}
use Rattle.sheet_file.specs.declared.Settings.{Settings}
use Rattle.ruling.specs.Ruling.{refused, accepted, points_of, ruling_of, rows_size}
use Rattle.ruling.specs.Order.{records_in}
use Rattle.ruling.proofs.Given.{not-refused}
use Rattle.ruling.proofs.Weights.{bytes-by}
use Rattle.marks.specs.Filters.{filter_count, leaf, component}
use Rattle.marks.specs.Byte.{has_mark, first_mark}
use Rattle.text.specs.Text.{bytes, refusal_of}
use Rattle.text.proofs.Stores.{each_long}
use Rattle.map_lines.specs.Map.{line_length, map_size, smallest, largest, span, smallest_v, span_v, too_wide, point_character, cell_character, line_of, line_text, lines_from, map_of}
use Rattle.map_lines.proofs.Moved.{map_same}
use Rattle.sheet_map.specs.Text.{map_ruling_of, map_text_of}
use Rattle.judging.specs.Judging.{judged_for}
use Rattle.promises.proofs.MovingMap.{drawn-text}
use Rattle.promises.specs.Map.{on_map, Lines, PointsShown}
use Rattle.promises.proofs.Theorems.{map-of-lines, map-points, map-numbers, map-texts, ten-alone}
use Rattle.stars.specs.Stars.{rules-compute, settings}
use Rattle.stars.specs.Listed.{file, file-computes, row_file}
use Rattle.instances.specs.Files.{point, short_file, five, zero_size, marks_of}
use Rattle.instances.proofs.Computed.{marks-are}
use Rattle.instances.proofs.KeptPatch.{file-bytes, fifth_marked, five-marks}
use Rattle.instances.proofs.AnotherOrder.{turned, turned_same, near_file, zero_size_file, near-framed, records-same, near, near-marks, zero-size-marks}
use Rattle.instances.proofs.WeakEnds.{row, row_settings, row-bytes, ends_marked, row-marked, turned_row, row_same}

-- what is printed of a file that is drawn, by the marks that were computed of its points
pub drawn-by : (file : List ℕ) (s : Settings) (ps : List Point) (m : List ℕ) → ruling_of file rows_size ≡ accepted s ps → too_wide (length ps) (cells_of ps) ≡ false → marks_of s ps ≡ m
    → map_text_of file ≡ map_of (length ps) (cells_of ps) m
drawn-by file s ps m e w f = drawn-text file s ps e w ∙ map_same (length ps) (cells_of ps) m (judged_for s ps).marks (marks-are s ps m f)

-- ---- the sheet of five points: six lines

abbrev pub five_drawn : List ℕ
five_drawn =
    bytes "     0 ##...................................................................... \n"
    ++ bytes "     1 ##...................................................................... \n"
    ++ bytes "     2 ........................................................................ \n"
    ++ bytes "     3 ........................................................................ \n"
    ++ bytes "     4 ........................................................................ \n"
    ++ bytes "     5 .....C.................................................................. \n"

pub file-drawn : map_text_of file ≡ five_drawn
unfolding map_text_of file-computes rules-compute
file-drawn = refl

pub file-ruled : ruling_of file rows_size ≡ accepted settings five
unfolding file-computes rules-compute
file-ruled = refl

narrow : too_wide 5 (cells_of five) ≡ false
unfolding cells_of span
narrow = refl

pub file-map-ruled : map_ruling_of file ≡ accepted settings five
file-map-ruled = (map-numbers file).none settings five file-ruled narrow

six : span_v 5 (cells_of five) ≡ 6
unfolding cells_of span
six = refl

from_zero : smallest_v 5 (cells_of five) ≡ pos 0
unfolding cells_of smallest
from_zero = refl

-- what the promise says of it: six lines, the first that of v 0
pub five-lines : Lines (map_text_of file) (pos 0) 6
five-lines = rw (six, from_zero) at (map-of-lines file settings five file-bytes file-map-ruled)

-- and no others: that of v 1 is not its first
pub not-from-one : Lines (map_text_of file) (pos 1) 6 → ⊥
unfolding lines_from
not-from-one r =
    let z : ◌≡◌ {A = ℕ} 48 49 = ap (λ (t : List ℕ). get_or t 5 0) (sym file-drawn ∙ r.whole) in
    omega arith

pub five-size : length (map_text_of file) ≡ 486
five-size = ap length file-drawn

-- each of its points stands on the map, the fifth, at (5,5), on line 5 in column 5
pub five-shown : PointsShown (map_text_of file) settings five
five-shown = map-points file settings five file-bytes file-map-ruled

pub fifth-place : (five-shown.line 4 ≡ 5) × (five-shown.column 4 ≡ 5)
unfolding cells_of smallest
fifth-place =
    let e = five-shown.cell 4 (omega arith) in
    (omega (arith, ap (λ (c : Cell). nat_abs c.v) e), omega (arith, ap (λ (c : Cell). nat_abs c.u) e))

pub fifth-character : on_map (map_text_of file) 5 5 ≡ bytes "C"
fifth-character = ap (λ (t : List ℕ). on_map t 5 5) file-drawn

-- by the promise it is the letter of the filter, and no full stop; (2,2) is no point
pub fifth-letter : on_map (map_text_of file) (five-shown.line 4) (five-shown.column 4) ≡ bytes "C"
unfolding first_mark
fifth-letter =
    let e = marks-are settings five fifth_marked five-marks 4 (omega arith) in
    five-shown.letter 4 component (omega arith) (omega arith) (ap (has_mark component) e) (λ g l. ap (has_mark g) e ∙ first-before (λ (f : ℕ). has_mark f 8) 0 filter_count g (omega arith) l)

pub fifth-no-full-stop : on_map (map_text_of file) (five-shown.line 4) (five-shown.column 4) ≡ bytes "." → ⊥
fifth-no-full-stop = five-shown.none_only 4 (omega arith)

pub full-stop-there : on_map (map_text_of file) 2 2 ≡ bytes "."
full-stop-there = ap (λ (t : List ℕ). on_map t 2 2) file-drawn

-- it is no refusal
pub five-no-refusal : (k : ℕ) → map_text_of file ≡ refusal_of k → ⊥
five-no-refusal = (map-texts file file-bytes).drawn settings five file-ruled narrow

-- ---- another order: the sheet of five points, its points in another order

pub turned-drawn : map_text_of turned ≡ five_drawn
turned-drawn = turned_same.map ∙ file-drawn

-- without "all else .. unchanged": with cell size 100 both points are marked, with 0 neither
near-accepted : ruling_of near_file rows_size ≡ accepted settings near
unfolding file-computes rules-compute
near-accepted = refl

zero-size-accepted : ruling_of zero_size_file rows_size ≡ accepted zero_size near
unfolding file-computes rules-compute
zero-size-accepted = refl

near-narrow : too_wide 2 (cells_of near) ≡ false
unfolding cells_of span
near-narrow = refl

pub near-drawn : map_text_of near_file ≡ bytes "     0 WW...................................................................... \n"
unfolding map_of cells_of
near-drawn = drawn-by near_file settings near (4 ∷ 4 ∷ []) near-accepted near-narrow near-marks

pub zero-size-drawn : map_text_of zero_size_file ≡ bytes "     0 ##...................................................................... \n"
unfolding map_of cells_of
zero-size-drawn = drawn-by zero_size_file zero_size near (0 ∷ 0 ∷ []) zero-size-accepted near-narrow zero-size-marks

-- so the same map needs the condition on the rest of the file
pub rest-needed-for-map : ((file other : List ℕ) (f : Layout) → Bytes file → framing_of file ≡ Some f
    → Permᴰ (records_in file f) (records_in other f) → map_text_of other ≡ map_text_of file) → ⊥
rest-needed-for-map f =
    let l = layout_of near_file in
    let same = f near_file zero_size_file l (bytes-by near_file refl) near-framed (rw (← records-same) (Permᴰ.refl (records_in near_file l))) in
    let z : ◌≡◌ {A = ℕ} 35 87 = ap (λ (t : List ℕ). get_or t 7 0) (sym zero-size-drawn ∙ same ∙ near-drawn) in
    omega arith

-- ---- the row of three with strengths: its first two points have the L mark

row-ruled : ruling_of row_file rows_size ≡ accepted row_settings row
unfolding file-computes rules-compute
row-ruled = refl

row-narrow : too_wide 3 (cells_of row) ≡ false
unfolding cells_of span
row-narrow = refl

pub row-drawn : map_text_of row_file ≡ bytes "     0 LL#..................................................................... \n"
unfolding map_of cells_of
row-drawn = drawn-by row_file row_settings row ends_marked row-ruled row-narrow row-marked

-- by the promise it is the letter of the filter
pub row-shown : PointsShown (map_text_of row_file) row_settings row
row-shown = map-points row_file row_settings row row-bytes ((map-numbers row_file).none row_settings row row-ruled row-narrow)

pub row-letter : on_map (map_text_of row_file) (row-shown.line 0) (row-shown.column 0) ≡ bytes "L"
unfolding first_mark
row-letter =
    let e = marks-are row_settings row ends_marked row-marked 0 (omega arith) in
    row-shown.letter 0 leaf (omega arith) (omega arith) (ap (has_mark leaf) e) (λ g l. ap (has_mark g) e ∙ first-before (λ (f : ℕ). has_mark f 16) 0 filter_count g (omega arith) l)

-- its last two points the other way round, with their strengths
pub turned-row-drawn : map_text_of turned_row ≡ bytes "     0 LL#..................................................................... \n"
turned-row-drawn = row_same.map ∙ row-drawn

-- ---- two points, (0,0) and one other: what they span

abbrev pub pair : ℕ → ℕ → List Point
pair u v = point 0 0 10 0 0 ∷ point u v 11 0x42C8_0000 0 ∷ []

abbrev pub pair_file : ℕ → ℕ → List ℕ
pair_file u v = short_file 0x42C8_0000 (pair u v)

-- 72 apart in u they span 73 values: the sheet is accepted, and the map refused with 10
pub wide-accepted : ruling_of (pair_file 72 0) rows_size ≡ accepted settings (pair 72 0)
unfolding file-computes rules-compute
wide-accepted = refl

wide : too_wide 2 (cells_of (pair 72 0)) ≡ true
unfolding cells_of span
wide = refl

pub wide-refused : map_ruling_of (pair_file 72 0) ≡ refused 10
wide-refused = (map-numbers (pair_file 72 0)).ten settings (pair 72 0) wide-accepted wide

-- so is its text
pub wide-text : map_text_of (pair_file 72 0) ≡ refusal_of 10
wide-text = (map-texts (pair_file 72 0) (bytes-by (pair_file 72 0) refl)).ten settings (pair 72 0) wide-accepted wide

-- of no other number
pub wide-ten-alone : (k : ℕ) → map_text_of (pair_file 72 0) ≡ refusal_of k → k ≡ 10
wide-ten-alone k q = elim ((map-texts (pair_file 72 0) (bytes-by (pair_file 72 0) refl)).known k q) [
  | inl r ↦ absurd (not-refused (sym r ∙ wide-accepted))
  | inr z ↦ z
]

-- a refusal is printed: that a map is none needs that the points do not span too much
pub narrow-needed : ((file : List ℕ) (s : Settings) (ps : List Point) → Bytes file → ruling_of file rows_size ≡ accepted s ps → (k : ℕ) → map_text_of file ≡ refusal_of k → ⊥) → ⊥
narrow-needed f = f (pair_file 72 0) settings (pair 72 0) (bytes-by (pair_file 72 0) refl) wide-accepted 10 wide-text

pub wide-printed : map_text_of (pair_file 72 0) ≡ bytes "refused 10\n"
unfolding map_text_of file-computes rules-compute
wide-printed = refl

-- 71 apart they are drawn
pub seventy-two-drawn : map_text_of (pair_file 71 0) ≡ bytes "     0 #......................................................................C \n"
unfolding map_text_of file-computes rules-compute
seventy-two-drawn = refl

-- 60 apart in v they span 61 values, and 59 apart 60, the most lines
pub sixty-one-refused : map_ruling_of (pair_file 0 60) ≡ refused 10
unfolding map_ruling_of file-computes rules-compute span
sixty-one-refused = refl

sixty-accepted : ruling_of (pair_file 0 59) rows_size ≡ accepted settings (pair 0 59)
unfolding file-computes rules-compute
sixty-accepted = refl

sixty-narrow : too_wide 2 (cells_of (pair 0 59)) ≡ false
unfolding cells_of span
sixty-narrow = refl

pub sixty-drawn : map_ruling_of (pair_file 0 59) ≡ accepted settings (pair 0 59)
sixty-drawn = (map-numbers (pair_file 0 59)).none settings (pair 0 59) sixty-accepted sixty-narrow

sixty : span_v 2 (cells_of (pair 0 59)) ≡ 60
unfolding cells_of span
sixty = refl

sixty-from : smallest_v 2 (cells_of (pair 0 59)) ≡ pos 0
unfolding cells_of smallest
sixty-from = refl

pub sixty-lines : Lines (map_text_of (pair_file 0 59)) (pos 0) 60
sixty-lines = rw (sixty, sixty-from) at (map-of-lines (pair_file 0 59) settings (pair 0 59) (bytes-by (pair_file 0 59) refl) sixty-drawn)

lines-size : {text : List ℕ} {v : ℤ} {count : ℕ} → Lines text v count → length text ≡ (line_length + 1) * count
unfolding lines_from line_text
lines-size {text} {v} {count} r =
    let line : ℕ → List ℕ = λ i. line_of (v +ℤ pos i) (r.characters i) in
    ap length r.whole ∙ each_long (λ i. line i ++ bytes "\n") (line_length + 1) count (λ i l. length-append (line i) (bytes "\n") ∙ ap (λ (k : ℕ). k + 1) (r.long i l))

-- so a buffer of map_size bytes is not too large: this map fills it
pub sixty-size : length (map_text_of (pair_file 0 59)) ≡ map_size
sixty-size = lines-size sixty-lines

-- a refusal is no lines: the promise needs its condition that the map is drawn
no_lines : (v : ℤ) (count : ℕ) → Lines (map_text_of (pair_file 72 0)) v count → ⊥
no_lines v count r = omega (arith, lines-size r, ap length wide-printed)

pub drawn-needed : ((file : List ℕ) → Bytes file → (v : ℤ) × (count : ℕ) × Lines (map_text_of file) v count) → ⊥
drawn-needed f = let w = f (pair_file 72 0) (bytes-by (pair_file 72 0) refl) in no_lines w.0 w.1 w.2

-- (72,0) has no column
off-page : PointsShown (map_text_of (pair_file 72 0)) settings (pair 72 0) → ⊥
unfolding cells_of smallest
off-page r = omega (arith, r.column-drawn 1 (omega arith), ap (λ (c : Cell). nat_abs c.u) (r.cell 1 (omega arith)))

pub drawn-needed-for-points : ((file : List ℕ) (s : Settings) (ps : List Point) → Bytes file → ruling_of file rows_size ≡ accepted s ps → PointsShown (map_text_of file) s ps) → ⊥
drawn-needed-for-points f = off-page (f (pair_file 72 0) settings (pair 72 0) (bytes-by (pair_file 72 0) refl) wide-accepted)

-- "after all older checks": (8001,0) lies out of range, and spans too much
far-refused : ruling_of (pair_file 8001 0) rows_size ≡ refused 6
unfolding file-computes rules-compute
far-refused = refl

pub six-first : map_ruling_of (pair_file 8001 0) ≡ refused 6
six-first = (map-numbers (pair_file 8001 0)).older 6 far-refused

-- and 6 is printed
pub six-printed : map_text_of (pair_file 8001 0) ≡ bytes "refused 6\n"
unfolding refusal_of
six-printed = (map-texts (pair_file 8001 0) (bytes-by (pair_file 8001 0) refl)).older 6 far-refused

far-wide : too_wide 2 (cells_of (points_of (pair_file 8001 0))) ≡ true
unfolding cells_of span file-computes
far-wide = refl

-- so 10 needs that the sheet is accepted
pub accepted-needed : ((file : List ℕ) → Bytes file → too_wide (length (points_of file)) (cells_of (points_of file)) ≡ true → map_ruling_of file ≡ refused 10) → ⊥
unfolding file-computes
accepted-needed f = let q : refused 6 ≡ refused 10 = sym six-first ∙ f (pair_file 8001 0) (bytes-by (pair_file 8001 0) refl) far-wide in let z : ◌≡◌ {A = ℕ} 6 10 = cc in omega arith

-- number 3 is a sheet's, by its result buffer, and never a map's: two points and 55 bytes
pub no_room : ruling_of (pair_file 71 0) 55 ≡ refused 3
unfolding file-computes rules-compute
no_room = refl

pub drawn-all-the-same : map_ruling_of (pair_file 71 0) ≡ accepted settings (pair 71 0)
unfolding map_ruling_of file-computes rules-compute span
drawn-all-the-same = refl

-- "Number 10 is the map's alone": the sheet that is not drawn is not refused
pub ten-nowhere : (room : ℕ) → ruling_of (pair_file 72 0) room ≡ refused 10 → ⊥
ten-nowhere = ten-alone (pair_file 72 0)

-- ---- "No points give no lines."

pub nothing-drawn : map_text_of (short_file 0x42C8_0000 []) ≡ []
unfolding map_text_of file-computes rules-compute
nothing-drawn = refl

-- ---- v below 0: one point at (0,-8000), 0xFFFFE0C0

pub lowest-drawn : map_text_of (short_file 0x42C8_0000 (point 0 0xFFFF_E0C0 10 0 0 ∷ [])) ≡ bytes " -8000 #....................................................................... \n"
unfolding map_text_of file-computes rules-compute
lowest-drawn = refl

-- ---- the characters

-- "# a kept one, else the letter of the first filter": of a byte without marks, with the last mark, with the last two, with the first two, and
-- with a bit that no filter has
pub letters-shown : point_character 0 ++ point_character 8 ++ point_character 24 ++ point_character 3 ++ point_character 32 ≡ bytes "#CLV#"
unfolding first_mark
letters-shown = refl

-- (5,5) is the cell of rank 4 alone, and (2,2) of none
pub fifth-shown : cell_character 5 (cells_of five) fifth_marked (cell_at (pos 5) (pos 5)) ≡ bytes "C"
unfolding cell_character cells_of
fifth-shown = refl

pub none-there : cell_character 5 (cells_of five) fifth_marked (cell_at (pos 2) (pos 2)) ≡ bytes "."
unfolding cell_character cells_of
none-there = refl

-- of two ranks in one cell the later is shown: a rank's character needs that no other rank has its cell
pub alone-needed : ((n : ℕ) (cell : ℕ → Cell) (marks : List ℕ) (k : ℕ) → k < n → cell_character n cell marks (cell k) ≡ point_character (get_or marks k 0)) → ⊥
unfolding cell_character
alone-needed f =
    let e : bytes "C" ≡ bytes "#" = f 2 (λ k. cell_at (pos 0) (pos 0)) (0 ∷ 8 ∷ []) 0 (omega arith) in
    let z : ◌≡◌ {A = ℕ} 67 35 = ap (λ (t : List ℕ). get_or t 0 0) e in
    omega arith

-- the smallest and the largest of 5, -3, 2, and how many values they span
abbrev three : ℕ → ℤ
three k = get_or (pos 5 ∷ negsuc 2 ∷ pos 2 ∷ []) k (pos 9)

pub three-ends : (smallest three 3 ≡ negsuc 2) × (largest three 3 ≡ pos 5) × (span three 3 ≡ 9)
unfolding span
three-ends = (refl, refl, refl)
