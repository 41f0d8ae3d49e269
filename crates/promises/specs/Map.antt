-- "A map on one page": what holds of the map of every sheet. Each promise is a type; proofs/Theorems.antt proves them. That another order of the
-- points gives the same map stands with the other results of another order (Promises.antt). Assumes nothing.
use Rattle.std.specs.Prelude.{◌≡◌, true, false, ◌⊎◌, List, [], ◌∷◌, ℕ, ◌≤◌, ◌<◌, ℤ, pos, ◌+ℤ◌, length, get_or}
use Rattle.folds.specs.Lists.{All}
use Rattle.cells.specs.Points.{Point, nowhere}
use Rattle.cells.specs.Cell.{cell_of, cells_of}
use Rattle.sheet_file.specs.Bytes.{Bytes}
use Rattle.sheet_file.specs.Frame.{layout_of}
use Rattle.sheet_file.specs.declared.Settings.{Settings}
use Rattle.ruling.specs.Ruling.{refused, accepted, ruling_of, applies, rows_size}
use Rattle.ruling.specs.Offset.{FileDisplaced, MovedAlong, moved_file, StaysInRange}
use Rattle.marks.specs.Filters.{filter_at, filter_count, validate}
use Rattle.marks.specs.Byte.{has_mark}
use Rattle.text.specs.Text.{bytes, refusal_of}
use Rattle.map_lines.specs.Map.{columns, line_length, most_lines, map_size, smallest_v, span_v, too_wide, cell_in, place_in_text, point_character, line_of, lines_from}
use Rattle.sheet_map.specs.Text.{map_ruling_of, map_text_of}
use Rattle.promises.specs.Words.{marks_in, kept_rank}

-- ---- the lines

-- "Each line is 80 characters: v right-aligned in 6, a space, 72 cell characters, a space": the text is so many such lines, each followed by a
-- newline, the first that of v, and the v of each line one more than that of the line before; a line has no newline inside
pub record Lines (text : List ℕ) (v : ℤ) (count : ℕ) : Type 0 where
  pub characters : ℕ → List ℕ
  pub whole : text ≡ lines_from v characters count
  pub cells : (i : ℕ) → i < count → length (characters i) ≡ columns
  pub long : (i : ℕ) → i < count → length (line_of (v +ℤ pos i) (characters i)) ≡ line_length
  pub no-newline : (i : ℕ) → i < count → All (λ (c : ℕ). c ≡ 10 → ⊥) (line_of (v +ℤ pos i) (characters i))
  pub few : count ≤ most_lines

-- "Lines run from the smallest v to the largest": of every file whose map is drawn, from the smallest v on as many as the points span values of v
abbrev pub MapLinesPromise : Type 0
MapLinesPromise = (file : List ℕ) (s : Settings) (ps : List Point) → Bytes file → map_ruling_of file ≡ accepted s ps → Lines (map_text_of file) (smallest_v (length ps) (cells_of ps)) (span_v (length ps) (cells_of ps))

-- a buffer of map_size bytes has room for what is printed of any file
abbrev pub MapSizePromise : Type 0
MapSizePromise = (file : List ℕ) → Bytes file → length (map_text_of file) ≤ map_size

-- ---- the points

-- the character of line i and column j
abbrev pub on_map : List ℕ → ℕ → ℕ → List ℕ
on_map text i j = get_or text (place_in_text i j) 0 ∷ []

-- every point has its line and column, where "# a kept one, else the letter of the first filter" stands; "a full stop is no point"
pub record PointsShown (text : List ℕ) (s : Settings) (ps : List Point) : Type 0 where
  pub line : ℕ → ℕ
  pub column : ℕ → ℕ
  pub line-drawn : (k : ℕ) → k < length ps → line k < span_v (length ps) (cells_of ps)
  pub column-drawn : (k : ℕ) → k < length ps → column k < columns
  pub cell : (k : ℕ) → k < length ps → cell_in (length ps) (cells_of ps) (line k) (column k) ≡ cell_of (get_or ps k nowhere)
  pub character : (k : ℕ) → k < length ps → on_map text (line k) (column k) ≡ point_character (marks_in s ps k)
  pub kept : (k : ℕ) → kept_rank s ps k ≡ true → on_map text (line k) (column k) ≡ bytes "#"
  pub kept-only : (k : ℕ) → k < length ps → on_map text (line k) (column k) ≡ bytes "#" → kept_rank s ps k ≡ true
  pub letter : (k f : ℕ) → k < length ps → f < filter_count → has_mark f (marks_in s ps k) ≡ true → ((g : ℕ) → g < f → has_mark g (marks_in s ps k) ≡ false)
      → on_map text (line k) (column k) ≡ bytes (filter_at f).letter
  pub none : (i j : ℕ) → i < span_v (length ps) (cells_of ps) → j < columns → ((k : ℕ) → k < length ps → cell_of (get_or ps k nowhere) ≡ cell_in (length ps) (cells_of ps) i j → ⊥) → on_map text i j ≡ bytes "."
  pub none_only : (k : ℕ) → k < length ps → on_map text (line k) (column k) ≡ bytes "." → ⊥

abbrev pub MapPointsPromise : Type 0
MapPointsPromise = (file : List ℕ) (s : Settings) (ps : List Point) → Bytes file → map_ruling_of file ≡ accepted s ps → PointsShown (map_text_of file) s ps

-- ---- the numbers

-- "It refuses with 10, after all older checks, points that span more than 72 values of u or 60 of v"
pub record MapNumbers (file : List ℕ) : Type 0 where
  -- every number of the sheet comes first
  pub older : (k : ℕ) → ruling_of file rows_size ≡ refused k → map_ruling_of file ≡ refused k
  -- 10 is given exactly where the sheet is accepted and its points span too much
  pub ten : (s : Settings) (ps : List Point) → ruling_of file rows_size ≡ accepted s ps → too_wide (length ps) (cells_of ps) ≡ true → map_ruling_of file ≡ refused 10
  pub ten-only : map_ruling_of file ≡ refused 10 → (s : Settings) × (ps : List Point) × (ruling_of file rows_size ≡ accepted s ps) × (too_wide (length ps) (cells_of ps) ≡ true)
  -- else the map is drawn
  pub none : (s : Settings) (ps : List Point) → ruling_of file rows_size ≡ accepted s ps → too_wide (length ps) (cells_of ps) ≡ false → map_ruling_of file ≡ accepted s ps
  -- no other number is given, and never 3: there is no result buffer
  pub known : (k : ℕ) → map_ruling_of file ≡ refused k → (ruling_of file rows_size ≡ refused k) ⊎ (k ≡ 10)
  pub never-three : map_ruling_of file ≡ refused 3 → ⊥

abbrev pub MapNumbersPromise : Type 0
MapNumbersPromise = (file : List ℕ) → MapNumbers file

-- the same of the text, which the functions are proved to write: "A refusal prints `refused` and the number"
pub record MapTexts (file : List ℕ) : Type 0 where
  -- every number of the sheet is printed, and no other but 10
  pub older : (k : ℕ) → ruling_of file rows_size ≡ refused k → map_text_of file ≡ refusal_of k
  pub known : (k : ℕ) → map_text_of file ≡ refusal_of k → (ruling_of file rows_size ≡ refused k) ⊎ (k ≡ 10)
  -- `refused 10` is printed exactly where the sheet is accepted and its points span too much
  pub ten : (s : Settings) (ps : List Point) → ruling_of file rows_size ≡ accepted s ps → too_wide (length ps) (cells_of ps) ≡ true → map_text_of file ≡ refusal_of 10
  pub ten-only : map_text_of file ≡ refusal_of 10 → (s : Settings) × (ps : List Point) × (ruling_of file rows_size ≡ accepted s ps) × (too_wide (length ps) (cells_of ps) ≡ true)
  -- no map that is drawn is the text of a refusal
  pub drawn : (s : Settings) (ps : List Point) → ruling_of file rows_size ≡ accepted s ps → too_wide (length ps) (cells_of ps) ≡ false → (k : ℕ) → map_text_of file ≡ refusal_of k → ⊥

abbrev pub MapTextsPromise : Type 0
MapTextsPromise = (file : List ℕ) → Bytes file → MapTexts file

-- "Number 10 is the map's alone"
abbrev pub TenAlonePromise : Type 0
TenAlonePromise = (file : List ℕ) (room : ℕ) → ruling_of file room ≡ refused 10 → ⊥

-- ---- an offset

-- the maps of two files are refused with 10
pub record BothRefused (file other : List ℕ) : Type 0 where
  pub old : map_ruling_of file ≡ refused 10
  pub new : map_ruling_of other ≡ refused 10

-- they have the same characters in as many lines, and b is added to the v of each line
pub record LinesMoved (file other : List ℕ) (b : ℤ) : Type 0 where
  pub first : ℤ
  pub characters : ℕ → List ℕ
  pub count : ℕ
  pub long : (i : ℕ) → i < count → length (characters i) ≡ columns
  pub old : map_text_of file ≡ lines_from first characters count
  pub new : map_text_of other ≡ lines_from (first +ℤ b) characters count

-- The moved file is refused with 10 exactly where the file is. If each point has the same validate mark, both are, or the map has moved along.
pub record MovedMap (file other : List ℕ) (a b : ℤ) (s : Settings) (ps : List Point) : Type 0 where
  pub along : MovedAlong (ruling_of other rows_size) a b s ps
  pub ten : map_ruling_of file ≡ refused 10 → map_ruling_of other ≡ refused 10
  pub ten-only : map_ruling_of other ≡ refused 10 → map_ruling_of file ≡ refused 10
  pub same : ((k : ℕ) → k < length ps → has_mark validate (marks_in s along.points k) ≡ has_mark validate (marks_in s ps k)) → BothRefused file other ⊎ LinesMoved file other b

abbrev pub OffsetMapPromise : Type 0
OffsetMapPromise = (file other : List ℕ) (a b : ℤ) → Bytes file → Bytes other → FileDisplaced file other (layout_of file) a b
    → applies other rows_size 6 ≡ false → (s : Settings) (ps : List Point) → ruling_of file rows_size ≡ accepted s ps → MovedMap file other a b s ps

-- the same of the moved file itself, of every accepted file and every offset in range
abbrev pub MovedFileMapPromise : Type 0
MovedFileMapPromise = (file : List ℕ) (a b : ℤ) → Bytes file → (s : Settings) (ps : List Point) → ruling_of file rows_size ≡ accepted s ps → StaysInRange a b ps
    → MovedMap file (moved_file file a b) a b s ps
