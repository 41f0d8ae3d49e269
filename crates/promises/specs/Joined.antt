-- "Two cameras, one sheet" (document 02, A.10): what is promised of two files, a move, and what they are joined to, beside what is promised of every
-- accepted sheet. Assumes nothing.
use Rattle.std.specs.List.{list_any}
use Rattle.std.specs.Prelude.{◌≡◌, true, false, ◌⊎◌, ◌++◌, map, ℕ, ◌*◌, ◌≤◌, ◌<◌, ℤ, length, get_or, Some, Ok}
use mathlib.Core.List.{List, [], ◌∷◌, Permᴰ}
use Rattle.refusals.specs.First.{ruled}
use Rattle.cells.specs.Points.{Point, nowhere}
use Rattle.cells.specs.Cell.{cell_of, moved}
use Rattle.sheet_file.specs.Bytes.{Bytes}
use Rattle.sheet_file.specs.Frame.{framing_of}
use Rattle.sheet_file.specs.Grammar.{most_data}
use Rattle.sheet_file.specs.Refusals.{too_many, too_short}
use Rattle.sheet_file.specs.declared.Fraction.TheVariants.{Missing}
use Rattle.sheet_file.specs.declared.Layout.{Layout}
use Rattle.sheet_file.specs.declared.Settings.{Settings}
use Rattle.points.specs.Refusals.{off_range, off_limit, cell_order}
use Rattle.ruling.specs.Ruling.{refused, accepted, ruling_of}
use Rattle.ruling.specs.Accepted.{AcceptedSheet}
use Rattle.ruling.specs.Order.{Relisted}
use Rattle.ruling.specs.Offset.{MovedAlong, moved_file, StaysInRange}
use Rattle.written_file.specs.Remade.{remade}
use Rattle.kept.specs.Answer.{counts_for, rows_by, answer_of, rows_after}
use Rattle.kept_joined.specs.Answer.{joined_answer_of, joined_rows_after}
use Rattle.joined_listing.specs.Text.{joined_text_of}
use Rattle.joined.specs.Joined.{moved_by, moved_move, joined_list, bad_move, joined_ruling, Joinable}
use Rattle.joined.specs.declared.moves.Move.{Move}
use Rattle.promises.specs.Words.{DistinctIndices, rounds_of}
use Rattle.promises.specs.Promises.{LargestPatch, PatchCount, MovedMarks}
use Rattle.promises.specs.Tally.{CountsIndices}
use Rattle.promises.specs.Leaves.{WeakEnds, NoLeaves}
use Rattle.promises.specs.Longest.{Longest}
use Rattle.promises.specs.Fills.{Fills, MovedFills}

-- ---- the numbers

-- "The joined list is then read as a sheet with all its refusals (2 also for more points than a tag 3 can hold)": of these only 2, 3, 6 and 7 can
-- still arise, in this order
pub record JoinNumbers (left right : List ℕ) (m : Move) (room : ℕ) (s : Settings) (ls rs : List Point) : Type 0 where
  pub four : (k : ℕ) → joined_ruling left right m room ≡ refused k → (k ≡ 2) ⊎ ((k ≡ 3) ⊎ ((k ≡ 6) ⊎ (k ≡ 7)))
  pub by-four : let l = joined_list m ls rs in joined_ruling left right m room
      ≡ ruled refused (accepted s (cell_order l)) ((2, too_many (length l)) ∷ (3, too_short room (length l)) ∷ (6, list_any off_range l) ∷ (7, list_any off_limit l) ∷ [])

abbrev pub JoinNumbersPromise : Type 0
JoinNumbersPromise = (left right : List ℕ) (m : Move) (room : ℕ) (s t : Settings) (ls rs : List Point) → Bytes left → Bytes right → Joinable left right m room s ls t rs
    → JoinNumbers left right m room s ls rs

-- ---- another order

-- the order of the points in either file does not matter: with the strengths taken along, the ruling is the same, and so are the number or the
-- counts, the rows byte for byte, and the listing
pub record SameJoin (left right left-other right-other : List ℕ) (m : Move) : Type 0 where
  pub ruling : (room : ℕ) → joined_ruling left-other right-other m room ≡ joined_ruling left right m room
  pub answer : (room : ℕ) → joined_answer_of left-other right-other m room ≡ joined_answer_of left right m room
  pub rows : (buffer : List ℕ) → joined_rows_after left-other right-other m buffer ≡ joined_rows_after left right m buffer
  pub listing : joined_text_of left-other right-other m ≡ joined_text_of left right m

abbrev pub JoinOrderPromise : Type 0
JoinOrderPromise = (left right left-other right-other : List ℕ) (f g : Layout) → Bytes left → framing_of left ≡ Some f → Relisted left left-other f
    → Bytes right → framing_of right ≡ Some g → Relisted right right-other g → (m : Move) → SameJoin left right left-other right-other m

-- ---- an empty half

-- a right file without points gives what the left file gives alone
abbrev pub EmptyRightPromise : Type 0
EmptyRightPromise = (left right : List ℕ) (m : Move) (room : ℕ) (s t : Settings) (ls : List Point) → Bytes left → Joinable left right m room s ls t []
    → joined_ruling left right m room ≡ ruling_of left room

-- ---- halves that are apart

-- no left point is in the cell that a right one is moved to
abbrev pub Separated : Move → List Point → List Point → Type 0
Separated m ls rs = (i j : ℕ) → i < length ls → j < length rs → cell_of (get_or ls i nowhere) ≡ moved m.du m.dv (cell_of (get_or rs j nowhere)) → ⊥

-- then the joined list is both, and an accepted sheet's points are these in another order: each left point as it was, each right one in its moved cell
pub record BothWhole (left right : List ℕ) (m : Move) (room : ℕ) (ls rs : List Point) : Type 0 where
  pub list : joined_list m ls rs ≡ ls ++ map (moved_by m) rs
  pub points : (s : Settings) (ps : List Point) → joined_ruling left right m room ≡ accepted s ps → Permᴰ (ls ++ map (moved_by m) rs) ps
  pub cells : (j : ℕ) → j < length rs → cell_of (moved_by m (get_or rs j nowhere)) ≡ moved m.du m.dv (cell_of (get_or rs j nowhere))

abbrev pub SeparatedPromise : Type 0
SeparatedPromise = (left right : List ℕ) (m : Move) (room : ℕ) (s t : Settings) (ls rs : List Point) → Bytes left → Bytes right → Joinable left right m room s ls t rs → Separated m ls rs
    → BothWhole left right m room ls rs

-- ---- a whole move

-- "moving the left cells and the offset together by whole numbers moves the answer along": the points of an accepted join, their marks and their
-- fills, where the moved cells stay in range and number 16 does not concern the new offset
pub record MovedTogether (left right : List ℕ) (m : Move) (room : ℕ) (a b : ℤ) (s : Settings) (ps : List Point) : Type 0 where
  pub along : MovedAlong (joined_ruling (moved_file left a b) right (moved_move a b m) room) a b s ps
  pub marks : MovedMarks (joined_ruling (moved_file left a b) right (moved_move a b m) room) a b s ps
  pub fills : MovedFills (joined_ruling (moved_file left a b) right (moved_move a b m) room) a b s ps

abbrev pub MovedTogetherPromise : Type 0
MovedTogetherPromise = (left right : List ℕ) (m : Move) (room : ℕ) (a b : ℤ) (s : Settings) (ps : List Point) → Bytes left → Bytes right → joined_ruling left right m room ≡ accepted s ps
    → StaysInRange a b ps → bad_move (moved_move a b m) ≡ false → MovedTogether left right m room a b s ps

-- ---- the same theorems

-- "promises about kept patches are those of the joined list", and all others that are about settings and points
pub record JoinedSheet (s : Settings) (ps : List Point) : Type 0 where
  pub sheet : AcceptedSheet s ps
  pub kept-patch : DistinctIndices ps → s.apply_largest_component ≡ true → LargestPatch s ps
  pub counted : s.apply_largest_component ≡ true → PatchCount s ps
  pub uncounted : s.apply_largest_component ≡ false → counts_for s ps ≡ record { points = length ps; components = 0; rounds = rounds_of s ps }
  pub tally : CountsIndices s ps
  pub weak-ends : WeakEnds s ps
  pub unweighed : s.score_frac ≡ Missing → NoLeaves s ps
  pub longest : Longest s ps
  pub fills : Fills s ps

abbrev pub JoinedSheetPromise : Type 0
JoinedSheetPromise = (left right : List ℕ) (m : Move) (room : ℕ) (s : Settings) (ps : List Point) → Bytes left → Bytes right → joined_ruling left right m room ≡ accepted s ps → JoinedSheet s ps

-- of two files that are accepted as one sheet: what the call gives is that of its settings and points
pub record OfJoin (left right : List ℕ) (m : Move) (room : ℕ) (s : Settings) (ps : List Point) : Type 0 where
  pub answer : joined_answer_of left right m room ≡ Ok (counts_for s ps)
  pub rows : (buffer : List ℕ) → length buffer ≡ room → joined_rows_after left right m buffer ≡ rows_by buffer (accepted s ps)

abbrev pub OfJoinPromise : Type 0
OfJoinPromise = (left right : List ℕ) (m : Move) (room : ℕ) (s : Settings) (ps : List Point) → joined_ruling left right m room ≡ accepted s ps → OfJoin left right m room s ps

-- ---- the file made of the joined list

-- if the joined list fits a tag 3, the join is ruled as the file with tags 1 and 2 of the left and these points, and has its answer and its rows
pub record SameAsFile (left right : List ℕ) (m : Move) (room : ℕ) (file : List ℕ) : Type 0 where
  pub bytes : Bytes file
  pub ruling : joined_ruling left right m room ≡ ruling_of file room
  pub answer : joined_answer_of left right m room ≡ answer_of file room
  pub rows : (buffer : List ℕ) → length buffer ≡ room → joined_rows_after left right m buffer ≡ rows_after file buffer

abbrev pub JoinFilePromise : Type 0
JoinFilePromise = (left right : List ℕ) (m : Move) (room : ℕ) (s t : Settings) (ls rs : List Point) → Bytes left → Bytes right → Joinable left right m room s ls t rs
    → 20 * length (joined_list m ls rs) ≤ most_data → SameAsFile left right m room (remade left (joined_list m ls rs))
