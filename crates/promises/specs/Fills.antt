-- What document 02, A.7, promises of positions for dropped points, of points ps in cell order with settings s. Assumes nothing.
use Rattle.std.specs.Float.Ieee.Scale.{finite}
use Rattle.folds.specs.Arith.{f32}
use Rattle.folds.specs.Below.{first, tally}
use Rattle.offsets.specs.declared.Offset.{Offset}
use Rattle.cells.specs.Points.{Point, nowhere}
use Rattle.view.specs.View.{max_points}
use Rattle.cells.specs.Cell.{Cell, cell_of, cells_of, moved, coincide, offset_by}
use Rattle.sheet_file.specs.Bytes.{Bytes}
use Rattle.sheet_file.specs.Frame.{framing_of, layout_of}
use Rattle.sheet_file.specs.declared.Layout.{Layout}
use Rattle.sheet_file.specs.declared.Settings.{Settings}
use Rattle.marks.specs.Filters.{validate}
use Rattle.marks.specs.Byte.{has_mark}
use Rattle.predict.specs.Predict.{opposite, side_at, prediction}
use Rattle.predict.specs.declared.PredictedPosition.{PredictedPosition}
use Rattle.predict.specs.Predict.{Prediction}
use Rattle.std.specs.Prelude.{◌≡◌, Bool, true, false, not, ◌&&◌, List, ◌++◌, ℕ, ◌+◌, ◌*◌, ◌≤◌, ◌<◌, T, eqb, ltb, ℤ, Float, length, get_or, drop, Some, None, Ok, Err}
use Rattle.ruling.specs.Ruling.{Ruling, refused, accepted, ruling_of, applies}
use Rattle.ruling.specs.Accepted.{AcceptedSheet}
use Rattle.ruling.specs.Order.{Relisted}
use Rattle.ruling.specs.Offset.{FileDisplaced, MovedAlong, moved_file, StaysInRange}
use Rattle.drop_set.specs.Filters.{sides_of}
use Rattle.judging.specs.Judging.{judged_for, fills_for}
use Rattle.sheet_fills.specs.Bytes.{fill_size, fills_bytes}
use Rattle.sheet_fills.specs.Answer.{as_rows, fill_ruling, fill_answer_of, fills_after}
use Rattle.promises.specs.Words.{marks_in, kept_rank}

module _ (s : Settings) (ps : List Point) where
  -- the fill of rank k
  abbrev pub fill_in : ℕ → Prediction
  fill_in k = get_or (fills_for s ps) k None

  -- "a dropped point, one with a mark of any filter"
  abbrev pub dropped_rank : ℕ → Bool
  dropped_rank k = ltb k (length ps) && not (eqb (marks_in s ps k) 0)

  -- ---- the rule on cells, as `predict_grid_position` has it: the kept points by their cells

  -- the rank of the kept point in cell c, or the number of points where there is none
  abbrev pub kept_in : Cell → ℕ
  kept_in c = first (λ (j : ℕ). kept_rank s ps j && coincide (cell_of (get_or ps j nowhere)) c) 0 (length ps)

  abbrev pub kept_there : Cell → Bool
  kept_there c = ltb (kept_in c) (length ps)

  -- its x and y
  abbrev pub kept_x : Cell → Float
  kept_x c = f32 (get_or ps (kept_in c) nowhere).x

  abbrev pub kept_y : Cell → Float
  kept_y c = f32 (get_or ps (kept_in c) nowhere).y

  -- "the position `predict_grid_position` finds from the kept points" for the cell c
  abbrev pub predicted_in : Cell → Prediction
  predicted_in c = prediction (sides_of s) (λ (o : Offset). kept_there (offset_by o c)) (λ (o : Offset). kept_x (offset_by o c)) (λ (o : Offset). kept_y (offset_by o c))

  -- ---- of every sheet

  -- "two kept points (10.4) at opposite neighbours" of rank k's cell: ranks j and m, at offset i of the lattice and at its opposite
  pub record PairAt (k i j m : ℕ) : Type 0 where
    pub offset : i < length (sides_of s)
    pub first-kept : kept_rank s ps j ≡ true
    pub second-kept : kept_rank s ps m ≡ true
    pub first_cell : cell_of (get_or ps j nowhere) ≡ offset_by (side_at (sides_of s) i) (cell_of (get_or ps k nowhere))
    pub second-cell : cell_of (get_or ps m nowhere) ≡ offset_by (opposite (side_at (sides_of s) i)) (cell_of (get_or ps k nowhere))

  pub record Fills : Type 0 where
    -- "For each dropped cell give the position `predict_grid_position` finds from the kept points": each point "by its own cell"
    pub by-cells : (k : ℕ) → dropped_rank k ≡ true → fill_in k ≡ predicted_in (cell_of (get_or ps k nowhere))
    -- "Kept points have none"
    pub not-kept : (k : ℕ) → kept_rank s ps k ≡ true → fill_in k ≡ None
    pub only-dropped : (k : ℕ) (p : PredictedPosition) → fill_in k ≡ Some p → dropped_rank k ≡ true
    -- "A fill has at most as many pairs as half of the lattice's offsets"
    pub few-pairs : (k : ℕ) (p : PredictedPosition) → fill_in k ≡ Some p → p.n_axis_pairs + p.n_axis_pairs ≤ length (sides_of s)
    -- "There is no pair exactly where no two kept points are at opposite neighbours of the cell."
    pub none : (k : ℕ) → dropped_rank k ≡ true → ((i j m : ℕ) → PairAt k i j m → ⊥) → fill_in k ≡ None
    pub none_only : (k : ℕ) → dropped_rank k ≡ true → fill_in k ≡ None → (i j m : ℕ) → PairAt k i j m → ⊥
    -- and a position comes of such two
    pub some_pair : (k : ℕ) (p : PredictedPosition) → fill_in k ≡ Some p → (i : ℕ) × (j : ℕ) × (m : ℕ) × PairAt k i j m

-- of every accepted sheet
abbrev pub FillsPromise : Type 0
FillsPromise = (s : Settings) (ps : List Point) → AcceptedSheet s ps → Fills s ps

-- "so at most 2"
abbrev pub TwoPairsPromise : Type 0
TwoPairsPromise = (s : Settings) (ps : List Point) → AcceptedSheet s ps → (k : ℕ) (p : PredictedPosition) → fill_in s ps k ≡ Some p → p.n_axis_pairs ≤ 2

-- "No fill is NaN or infinite."
abbrev pub FiniteFillsPromise : Type 0
FiniteFillsPromise = (s : Settings) (ps : List Point) → AcceptedSheet s ps → (k : ℕ) (p : PredictedPosition) → fill_in s ps k ≡ Some p
    → T (finite p.x) × T (finite p.y)

-- ---- what a fill depends on

-- q has p's x and y and stands in p's cell, moved; nothing is said of its index and its strength
pub record Carried (move : Cell → Cell) (p q : Point) : Type 0 where
  pub cell : cell_of q ≡ move (cell_of p)
  pub x : q.x ≡ p.x
  pub y : q.y ≡ p.y

-- the kept points of qs with settings t are those of ps with settings s, moved, and no others
pub record KeptAlike (move : Cell → Cell) (s : Settings) (ps : List Point) (t : Settings) (qs : List Point) : Type 0 where
  pub there : (j : ℕ) → kept_rank s ps j ≡ true → (m : ℕ) × (kept_rank t qs m ≡ true) × Carried move (get_or ps j nowhere) (get_or qs m nowhere)
  pub back : (m : ℕ) → kept_rank t qs m ≡ true → (j : ℕ) × (kept_rank s ps j ≡ true) × Carried move (get_or ps j nowhere) (get_or qs m nowhere)

-- then points that are dropped in both have the same fill, if they stand in one cell but for the move, whatever their indices, their positions,
-- the strengths, the settings and the other dropped points
abbrev pub SameFills : (Cell → Cell) → Settings → List Point → Settings → List Point → Type 0
SameFills move s ps t qs = KeptAlike move s ps t qs
    → (k m : ℕ) → dropped_rank s ps k ≡ true → dropped_rank t qs m ≡ true → cell_of (get_or qs m nowhere) ≡ move (cell_of (get_or ps k nowhere)) → fill_in t qs m ≡ fill_in s ps k

-- "A fill depends on its cell, the cells of the kept points and their positions alone": of two accepted sheets on one lattice
abbrev pub KeptAlonePromise : Type 0
KeptAlonePromise = (s t : Settings) (ps qs : List Point) → AcceptedSheet s ps → AcceptedSheet t qs
    → sides_of s ≡ sides_of t → SameFills (λ (c : Cell). c) s ps t qs

-- and under a whole move of the kept points
abbrev pub KeptMovedPromise : Type 0
KeptMovedPromise = (s t : Settings) (ps qs : List Point) → AcceptedSheet s ps → AcceptedSheet t qs
    → sides_of s ≡ sides_of t → (a b : ℤ) → SameFills (moved a b) s ps t qs

-- what the call leaves in the buffer of an accepted sheet's fills, `count` of them
pub record FilledBy (s : Settings) (ps : List Point) (file buffer : List ℕ) : Type 0 where
  pub count : ℕ
  pub dropped : count ≡ tally (dropped_rank s ps) (length ps)
  pub answer : fill_answer_of file (length buffer) ≡ Ok (record { points = length ps; fills = count })
  pub size : length (fills_bytes (cells_of ps) (judged_for s ps).marks (fills_for s ps) (length ps)) ≡ fill_size * count
  pub fits : fill_size * count ≤ length buffer
  pub buffer-is : fills_after file buffer ≡ fills_bytes (cells_of ps) (judged_for s ps).marks (fills_for s ps) (length ps) ++ drop (fill_size * count) buffer

-- ---- another order

-- "Another order of the points (14.2) changes no fill": what the relisted file's points have, by rank, is what the file's have
abbrev pub FillsOrderPromise : Type 0
FillsOrderPromise = (file other : List ℕ) (f : Layout) → Bytes file → framing_of file ≡ Some f → Relisted file other f
    → (room : ℕ) (s t : Settings) (ps qs : List Point) → ruling_of file room ≡ accepted s ps → ruling_of other room ≡ accepted t qs → fills_for t qs ≡ fills_for s ps

-- ---- the call

-- the call that writes the fills of an accepted sheet into a lent buffer, of every file and buffer
pub record FillCall (file buffer : List ℕ) : Type 0 where
  -- the numbers are those of a sheet, and 3 is in its place among them: where the buffer is shorter than 20 bytes for each point
  pub number : (k : ℕ) → fill_ruling file (length buffer) ≡ refused k → fill_answer_of file (length buffer) ≡ Err k
  pub three : (layout_of file).count ≤ max_points → applies file (as_rows (length buffer)) 3 ≡ ltb (length buffer) (fill_size * (layout_of file).count)
  -- a refusal writes nothing
  pub untouched : (k : ℕ) → fill_answer_of file (length buffer) ≡ Err k → fills_after file buffer ≡ buffer
  -- an accepted sheet's fills are its dropped points', in cell order, and nothing beyond them is touched
  pub filled : (s : Settings) (ps : List Point) → fill_ruling file (length buffer) ≡ accepted s ps → FilledBy s ps file buffer

abbrev pub FillCallPromise : Type 0
FillCallPromise = (file buffer : List ℕ) → Bytes file → FillCall file buffer

-- ---- an offset

-- "Under an offset as in 14.3 every point has the fill that it had, if the kept patch has moved along, as it does if the validate marks stay"
pub record MovedFills (x : Ruling) (a b : ℤ) (s : Settings) (ps : List Point) : Type 0 where
  pub along : MovedAlong x a b s ps
  pub kept : ((k : ℕ) → kept_rank s along.points k ≡ kept_rank s ps k) → fills_for s along.points ≡ fills_for s ps
  pub same : ((k : ℕ) → k < length ps → has_mark validate (marks_in s along.points k) ≡ has_mark validate (marks_in s ps k)) → fills_for s along.points ≡ fills_for s ps

-- of every ruling that accepts the moved points, whatever it is of
abbrev pub MovedFillsPromise : Type 0
MovedFillsPromise = (x : Ruling) (a b : ℤ) (s : Settings) (ps : List Point) → MovedAlong x a b s ps → MovedFills x a b s ps

-- of a moved file
abbrev pub OffsetFillsPromise : Type 0
OffsetFillsPromise = (file other : List ℕ) (a b : ℤ) → Bytes file → Bytes other → FileDisplaced file other (layout_of file) a b
    → (room : ℕ) → applies other room 6 ≡ false → (s : Settings) (ps : List Point) → ruling_of file room ≡ accepted s ps → MovedFills (ruling_of other room) a b s ps

-- the same of the moved file itself
abbrev pub MovedFileFillsPromise : Type 0
MovedFileFillsPromise = (file : List ℕ) (a b : ℤ) → Bytes file → (room : ℕ) (s : Settings) (ps : List Point) → ruling_of file room ≡ accepted s ps → StaysInRange a b ps
    → MovedFills (ruling_of (moved_file file a b) room) a b s ps
