-- Demand 3: what documents 01 and 02 promise of an accepted, rearranged, moved or switched sheet. Each promise is a type; proofs/Theorems.antt proves
-- them of the definitions that the call is proved equal to. What is promised of points and settings is promised of every accepted sheet, whatever
-- it was read or made of; specs/OfFile.antt says what makes a file's sheet one. Assumes nothing.
use Rattle.std.specs.Prelude.{◌≡◌, Bool, true, false, ◌&&◌, ◌⊎◌, List, ℕ, ◌<◌, eqb, ltb, ℤ, length, get_or, Some}
use Rattle.folds.specs.Below.{tally}
use Rattle.cells.specs.Points.{Point, nowhere}
use Rattle.cells.specs.Cell.{cell_of, before}
use Rattle.sheet_file.specs.Bytes.{Bytes}
use Rattle.sheet_file.specs.Frame.{framing_of, layout_of}
use Rattle.sheet_file.specs.declared.Layout.{Layout}
use Rattle.sheet_file.specs.declared.Settings.{Settings}
use Rattle.components.specs.WholePatches.{WholePatch, Smallest, KeptPatch, PatchesCounted}
use Rattle.ruling.specs.Ruling.{Ruling, accepted, ruling_of, applies}
use Rattle.ruling.specs.Accepted.{AcceptedSheet}
use Rattle.ruling.specs.Order.{Relisted}
use Rattle.ruling.specs.Switches.{Switched}
use Rattle.ruling.specs.Offset.{FileDisplaced, MovedAlong, moved_file, StaysInRange}
use Rattle.marks.specs.Filters.{validate, orientation, wrong, leaf}
use Rattle.marks.specs.Byte.{has_mark}
use Rattle.kept.specs.Answer.{counts_for, answer_of, rows_by, rows_after, tally_of}
use Rattle.sheet_listing.specs.Text.{text_of}
use Rattle.sheet_map.specs.Text.{map_text_of}
use Rattle.sheet_fills.specs.Answer.{fill_answer_of, fills_after}
use Rattle.promises.specs.Words.{DistinctIndices, marks_in, rounds_of, has_other, survivor, joined, kept_rank, marks_shown, marks_byte}

-- ---- ranks, and the rows

-- "Cells are ordered as the rows are": a smaller rank is an earlier cell
abbrev pub RanksAreCells : Type 0
RanksAreCells = (s : Settings) (ps : List Point) → AcceptedSheet s ps → (i j : ℕ) → i < j → j < length ps
    → before (cell_of (get_or ps i nowhere)) (cell_of (get_or ps j nowhere)) ≡ true

-- "On any accepted sheet the kept patch is the points whose row has no mark": the ranks with 0 in the first byte of the row, in any buffer
abbrev pub KeptByRows : Type 0
KeptByRows = (buffer : List ℕ) (s : Settings) (ps : List Point) (k : ℕ) → kept_rank s ps k ≡ ltb k (length ps) && eqb (marks_shown (rows_by buffer (accepted s ps)) k) 0

-- ---- (a) the kept patch

-- The kept patch is empty exactly when the other filters mark every point; else it is one whole patch, every other whole patch has at most
-- as many points, and any with as many has a later smallest cell, by rank and so by u, then v.
pub record LargestPatch (s : Settings) (ps : List Point) : Type 0 where
  pub empty : ((k : ℕ) → k < length ps → has_other s ps k ≡ true) → (k : ℕ) → kept_rank s ps k ≡ false
  pub empty-only : ((k : ℕ) → kept_rank s ps k ≡ false) → (k : ℕ) → k < length ps → has_other s ps k ≡ true
  pub largest : KeptPatch (survivor s ps) (joined s ps) (length ps) (kept_rank s ps)
  pub later : (W : ℕ → Bool) → WholePatch (survivor s ps) (joined s ps) W → tally W (length ps) ≡ tally (kept_rank s ps) (length ps)
      → ((k : ℕ) → W k ≡ kept_rank s ps k) ⊎ ((x y : ℕ) → Smallest W x → Smallest (kept_rank s ps) y → before (cell_of (get_or ps y nowhere)) (cell_of (get_or ps x nowhere)) ≡ true)
  -- each whole patch has a smallest cell
  pub has-smallest : (W : ℕ → Bool) → WholePatch (survivor s ps) (joined s ps) W → (x : ℕ) × Smallest W x

abbrev pub KeptPatchPromise : Type 0
KeptPatchPromise = (s : Settings) (ps : List Point) → AcceptedSheet s ps → DistinctIndices ps → s.apply_largest_component ≡ true → LargestPatch s ps

-- "with the switch on, the component count is how many whole patches there are": one for each rank that `first` picks, whose patch is `patch`
pub record PatchCount (s : Settings) (ps : List Point) : Type 0 where
  pub first : ℕ → Bool
  pub patch : ℕ → ℕ → Bool
  pub counts : counts_for s ps ≡ record { points = length ps; components = tally first (length ps); rounds = rounds_of s ps }
  pub each : PatchesCounted (survivor s ps) (joined s ps) (length ps) first patch

abbrev pub ComponentCountPromise : Type 0
ComponentCountPromise = (s : Settings) (ps : List Point) → AcceptedSheet s ps → s.apply_largest_component ≡ true → PatchCount s ps

-- "With the switch off the count is 0."
abbrev pub NoCountPromise : Type 0
NoCountPromise = (s : Settings) (ps : List Point) → s.apply_largest_component ≡ false → counts_for s ps ≡ record { points = length ps; components = 0; rounds = rounds_of s ps }

-- ---- (b) another order

-- "Another order is any rearrangement of the points in tag 3, all else and the result buffer's length unchanged"; "points listed in another order
-- take their strengths with them": for every well-framed file the same number, or the same counts, the same rows byte for byte, the same
-- listing, the same map, and the same fills
pub record SameResult (file other : List ℕ) : Type 0 where
  pub answer : (room : ℕ) → answer_of other room ≡ answer_of file room
  pub rows : (buffer : List ℕ) → rows_after other buffer ≡ rows_after file buffer
  -- "The counts are those of the listing's first line and of its tally."
  pub tally : (room : ℕ) → tally_of other room ≡ tally_of file room
  pub listing : text_of other ≡ text_of file
  -- the map of the program `map`
  pub map : map_text_of other ≡ map_text_of file
  -- the call for the fills
  pub fill-answer : (room : ℕ) → fill_answer_of other room ≡ fill_answer_of file room
  pub fills : (buffer : List ℕ) → fills_after other buffer ≡ fills_after file buffer

abbrev pub AnotherOrderPromise : Type 0
AnotherOrderPromise = (file other : List ℕ) (f : Layout) → Bytes file → framing_of file ≡ Some f → Relisted file other f → SameResult file other

-- ---- (c) an offset

-- This ruling accepts, its points are the old ones at their moved cells and no others, and each has the same orientation and wrong-label marks;
-- if each has the same validate mark too, each has the same marks, "A whole move keeps L if the earlier marks hold", with as many rounds and the
-- same counts, and "the kept patch has moved along".
pub record MovedMarks (x : Ruling) (a b : ℤ) (s : Settings) (ps : List Point) : Type 0 where
  pub along : MovedAlong x a b s ps
  pub orientation : (k : ℕ) → k < length ps → has_mark orientation (marks_in s along.points k) ≡ has_mark orientation (marks_in s ps k)
  pub wrong : (k : ℕ) → k < length ps → has_mark wrong (marks_in s along.points k) ≡ has_mark wrong (marks_in s ps k)
  pub same : ((k : ℕ) → k < length ps → has_mark validate (marks_in s along.points k) ≡ has_mark validate (marks_in s ps k)) → (k : ℕ) → marks_in s along.points k ≡ marks_in s ps k
  pub leaf : ((k : ℕ) → k < length ps → has_mark validate (marks_in s along.points k) ≡ has_mark validate (marks_in s ps k)) → (k : ℕ) → has_mark leaf (marks_in s along.points k) ≡ has_mark leaf (marks_in s ps k)
  pub rounds : ((k : ℕ) → k < length ps → has_mark validate (marks_in s along.points k) ≡ has_mark validate (marks_in s ps k)) → rounds_of s along.points ≡ rounds_of s ps
  pub counts : ((k : ℕ) → k < length ps → has_mark validate (marks_in s along.points k) ≡ has_mark validate (marks_in s ps k)) → counts_for s along.points ≡ counts_for s ps
  pub kept : ((k : ℕ) → k < length ps → has_mark validate (marks_in s along.points k) ≡ has_mark validate (marks_in s ps k)) → (k : ℕ) → kept_rank s along.points k ≡ kept_rank s ps k

-- of every ruling that accepts the moved points, whatever it is of
abbrev pub MovedMarksPromise : Type 0
MovedMarksPromise = (x : Ruling) (a b : ℤ) (s : Settings) (ps : List Point) → MovedAlong x a b s ps → MovedMarks x a b s ps

-- of a moved file: "In range means that the condition of number 6 fails."
abbrev pub OffsetPromise : Type 0
OffsetPromise = (file other : List ℕ) (a b : ℤ) → Bytes file → Bytes other → FileDisplaced file other (layout_of file) a b
    → (room : ℕ) → applies other room 6 ≡ false → (s : Settings) (ps : List Point) → ruling_of file room ≡ accepted s ps → MovedMarks (ruling_of other room) a b s ps

-- the same, of the rows in one buffer: the orientation and wrong-label marks stay; if the validate marks stay too, all marks do, and so do the
-- counts of points, of components and of rounds
pub record MovedRows (file other buffer : List ℕ) (n : ℕ) : Type 0 where
  pub orientation : (k : ℕ) → k < n → has_mark orientation (marks_byte other buffer k) ≡ has_mark orientation (marks_byte file buffer k)
  pub wrong : (k : ℕ) → k < n → has_mark wrong (marks_byte other buffer k) ≡ has_mark wrong (marks_byte file buffer k)
  pub kept : ((k : ℕ) → k < n → has_mark validate (marks_byte other buffer k) ≡ has_mark validate (marks_byte file buffer k)) → (k : ℕ) → k < n → marks_byte other buffer k ≡ marks_byte file buffer k
  pub counts : ((k : ℕ) → k < n → has_mark validate (marks_byte other buffer k) ≡ has_mark validate (marks_byte file buffer k)) → answer_of other (length buffer) ≡ answer_of file (length buffer)

abbrev pub OffsetRowsPromise : Type 0
OffsetRowsPromise = (file other buffer : List ℕ) (a b : ℤ) → Bytes file → Bytes other → FileDisplaced file other (layout_of file) a b
    → applies other (length buffer) 6 ≡ false → (s : Settings) (ps : List Point) → ruling_of file (length buffer) ≡ accepted s ps → MovedRows file other buffer (length ps)

-- "An offset is one whole number added to every u and one to every v": the same of the moved file itself, of every accepted file and every
-- offset in range
abbrev pub MovedFilePromise : Type 0
MovedFilePromise = (file : List ℕ) (a b : ℤ) → Bytes file → (room : ℕ) (s : Settings) (ps : List Point) → ruling_of file room ≡ accepted s ps → StaysInRange a b ps
    → MovedMarks (ruling_of (moved_file file a b) room) a b s ps

abbrev pub MovedFileRowsPromise : Type 0
MovedFileRowsPromise = (file buffer : List ℕ) (a b : ℤ) → Bytes file → (s : Settings) (ps : List Point) → ruling_of file (length buffer) ≡ accepted s ps
    → StaysInRange a b ps → MovedRows file (moved_file file a b) buffer (length ps)

-- ---- (d) the switches

-- "Changing only the two switches alters neither bit 0 nor bit 1": the file with other switches is accepted with the same points, each with the
-- same two bits. Only settings of length 21 have the switches.
pub record SameBits (other : List ℕ) (room : ℕ) (s : Settings) (ps : List Point) : Type 0 where
  pub settings : Settings
  pub ruling : ruling_of other room ≡ accepted settings ps
  pub validate : (k : ℕ) → k < length ps → has_mark validate (marks_in settings ps k) ≡ has_mark validate (marks_in s ps k)
  pub orientation : (k : ℕ) → k < length ps → has_mark orientation (marks_in settings ps k) ≡ has_mark orientation (marks_in s ps k)

abbrev pub SwitchesPromise : Type 0
SwitchesPromise = (file other : List ℕ) → Bytes file → Switched file other → (layout_of file).full ≡ true → (room : ℕ) (s : Settings) (ps : List Point) → ruling_of file room ≡ accepted s ps → SameBits other room s ps

-- the same, of the rows in one buffer
pub record SameRowBits (file other buffer : List ℕ) (n : ℕ) : Type 0 where
  pub validate : (k : ℕ) → k < n → has_mark validate (marks_byte other buffer k) ≡ has_mark validate (marks_byte file buffer k)
  pub orientation : (k : ℕ) → k < n → has_mark orientation (marks_byte other buffer k) ≡ has_mark orientation (marks_byte file buffer k)

abbrev pub SwitchedRowsPromise : Type 0
SwitchedRowsPromise = (file other buffer : List ℕ) → Bytes file → Switched file other → (layout_of file).full ≡ true → (s : Settings) (ps : List Point) → ruling_of file (length buffer) ≡ accepted s ps
    → SameRowBits file other buffer (length ps)
