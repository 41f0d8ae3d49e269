-- "2,304 points pass": the sheet of the 48 by 48 target is accepted. Assumes nothing.
use Rattle.std.specs.List.{list_any}
use Rattle.std.specs.Prelude.{is_some}
use mathlib.Core.Path.{◌≡◌, refl, ap, ◌∙◌}
use mathlib.Core.Bool.{Bool, true, false, cond, ◌&&◌}
use mathlib.Core.List.{List}
use mathlib.Core.Logic.{inl}
use Prim.{Dec, yes, no}
use Prim.Native.Nat.{ℕ, ◌+◌, ◌*◌, ◌/◌, ◌%◌, ◌^◌, ◌≤◌, ◌<◌}
use native.Mathlib.Decide.{dec_lt, ℕ_discrete}
use native.Mathlib.Omega.{arith}
use lib.Dec.{eqb}
use lib.Ieee.{of_bits}
use lib.ListN.{length, get_or}
use borrow.Author.Tests.{lt-ltb, le-ltb, le-leb, ne_eqb}
use Rattle.folds.specs.Arith.{f32}
use Rattle.folds.proofs.Among.{any-list, pair-no}
use Rattle.folds.proofs.Below.{some-no}
use Rattle.folds.specs.Lists.{list_of}
use Rattle.folds.proofs.Lists.{length-list, list_at, list_over, list_ext}
use Rattle.view.specs.View.{max_points}
use Rattle.refusals.proofs.Laws.{holds, none_passes}
use Rattle.sort.proofs.Sorted.{sort-length}
use Rattle.cells.specs.Points.{Point, nowhere}
use Rattle.cells.specs.Cell.{signed, within}
use Rattle.sheet_file.specs.Bytes.{Bytes, byte_at, le32}
use Rattle.sheet_file.specs.Limit.{outside}
use Rattle.sheet_file.specs.Frame.{framing_of, layout_of, weights_size}
use Rattle.sheet_file.specs.Grammar.{WellFramed}
use Rattle.sheet_file.specs.Refusals.{fraction_of, settings_of, header_refusals, bad_flag, bad_float}
use Rattle.sheet_file.specs.declared.Fraction.TheVariants.{Missing}
use Rattle.sheet_file.specs.declared.Layout.{Layout}
use Rattle.sheet_file.specs.declared.Settings.{Settings}
use Rattle.sheet_file.proofs.Fields.{PointsAt}
use Rattle.sheet_file.proofs.Grammar.{well-framed, points-counted, weights-counted}
use Rattle.points.specs.Records.{ith_point, points_in}
use Rattle.points.specs.Refusals.{off_range, off_limit, off_strength, same_cell, two_positions, two_strengths, point_refusals, comes_before, cell_order}
use Rattle.ruling.specs.Ruling.{refused, accepted, ruling_for, points_of, ruling_of, applies, rows_size}
use Rattle.ruling.specs.Limit.{point_count, WeightsFit, short_sheet, board_byte, board_at, board_points, board48}
use Rattle.ruling.proofs.Given.{own-fraction, by-points, given}
use Rattle.ruling.proofs.Limit.{fits, after-head, short-bytes, short-framed, short-fields}
use Rattle.std.proofs.Math.Bool.{and-false}
use Rattle.std.proofs.lemmas.Bool.{false_from_ne_true, or_from}

-- ---- its points

abbrev board_bytes : List ℕ
board_bytes = list_of (20 * board_points) board_at

abbrev board_point : ℕ → Point
board_point i = record { u = i / 48; v = i % 48; index = i; x = 0; y = 0; strength = 0 }

board-byte : (i j : ℕ) → i < board_points → j < 20 → byte_at board48 (10 + (20 * i + j)) ≡ board_byte i j
board-byte i j h l =
    let q : (20 * i + j) / 20 ≡ i = omega arith in
    let r : (20 * i + j) % 20 ≡ j = omega arith in
    after-head board_bytes (20 * i + j) ∙ list_at (20 * board_points) board_at (20 * i + j) 0 (omega arith) ∙ rw (q, r)

board-word : (i j : ℕ) → i < board_points → j + 3 < 20
    → le32 board48 (10 + 20 * i + j) ≡ board_byte i j + 256 * board_byte i (j + 1) + 65536 * board_byte i (j + 2) + 16777216 * board_byte i (j + 3)
unfolding le32
board-word i j h l =
    let a : 10 + 20 * i + j ≡ 10 + (20 * i + j) = omega arith in
    let b : 10 + (20 * i + j) + 1 ≡ 10 + (20 * i + (j + 1)) = omega arith in
    let c : 10 + (20 * i + j) + 2 ≡ 10 + (20 * i + (j + 2)) = omega arith in
    let d : 10 + (20 * i + j) + 3 ≡ 10 + (20 * i + (j + 3)) = omega arith in
    rw (a, b, c, d, board-byte i j h (omega arith), board-byte i (j + 1) h (omega arith), board-byte i (j + 2) h (omega arith), board-byte i (j + 3) h (omega arith))

-- the board's layout: the points begin at byte 10, and there is no tag 4
record OnBoard (f : Layout) : Type 0 where
  points-at : f.points ≡ 10
  count-is : f.count ≡ board_points
  unweighed : is_some f.weights ≡ false

board-point : (f : Layout) → OnBoard f → (i : ℕ) → i < board_points → ith_point board48 f i ≡ board_point i
board-point f o i h =
    let z : 10 + 20 * i + 0 ≡ 10 + 20 * i = omega arith in
    let u : le32 board48 (10 + 20 * i) ≡ i / 48 = rw z at (board-word i 0 h (omega arith)) ∙ omega arith in
    let v : le32 board48 (10 + 20 * i + 4) ≡ i % 48 = board-word i 4 h (omega arith) ∙ omega arith in
    let index : le32 board48 (10 + 20 * i + 8) ≡ i = board-word i 8 h (omega arith) ∙ omega arith in
    let x : le32 board48 (10 + 20 * i + 12) ≡ 0 = board-word i 12 h (omega arith) in
    let y : le32 board48 (10 + 20 * i + 16) ≡ 0 = board-word i 16 h (omega arith) in
    rw (o.points-at, o.unweighed, u, v, index, x, y)

-- ---- no number applies to them

zero-inside : outside (f32 0) ≡ false
unfolding of_bits
zero-inside = refl

small-within : (b : ℕ) → b ≤ 8000 → within (signed b) ≡ true
small-within b l = rw (lt-ltb b (2 ^ 31) (omega arith)) (le-leb b 8000 l)

different-cells : (i j : ℕ) → i < j → same_cell (board_point i) (board_point j) ≡ false
different-cells i j l = go (ℕ_discrete (i / 48) (j / 48))
  where
    go : Dec (i / 48 ≡ j / 48) → eqb (i / 48) (j / 48) && eqb (i % 48) (j % 48) ≡ false
    go (yes e) = rw (ne_eqb (i % 48) (j % 48) (λ f. omega (arith, e, f))) (and-false (eqb (i / 48) (j / 48)))
    go (no f) = rw (ne_eqb (i / 48) (j / 48) f)

points-pass : list_any holds (point_refusals Missing (list_of board_points board_point)) ≡ false
unfolding point_refusals
points-pass =
    or_from _ _ (any-list board_point board_points off_range ∙ some-no (λ (i : ℕ). off_range (board_point i)) board_points (λ i h. rw (small-within (i / 48) (omega arith), small-within (i % 48) (omega arith))))
    (or_from _ _ (any-list board_point board_points off_limit ∙ some-no (λ (i : ℕ). off_limit (board_point i)) board_points (λ i h. rw zero-inside))
    (or_from _ _ (any-list board_point board_points off_strength ∙ some-no (λ (i : ℕ). off_strength (board_point i)) board_points (λ i h. rw zero-inside))
    (or_from _ _ (pair-no board_point board_points same_cell (λ i j l h. different-cells i j l))
    (or_from _ _ (pair-no board_point board_points two_positions (λ i j l h. and-false (eqb i j))) (or_from _ _ (pair-no board_point board_points two_strengths (λ i j l h. and-false (eqb i j))) refl)))))

-- ---- nor to its header

board-size : length board_bytes ≡ 20 * board_points
board-size = length-list (20 * board_points) board_at

cell-size : (p : List ℕ) → le32 (short_sheet p) 3 ≡ 0
unfolding short_sheet le32
cell-size p = refl

module _ (p : List ℕ) (f : Layout) (h : PointsAt (short_sheet p) f 7 false false) where
  no-flags : bad_flag (short_sheet p) f ≡ false
  unfolding bad_flag
  no-flags = rw h.full_is

  zero-float : bad_float (short_sheet p) f ≡ false
  unfolding bad_float
  zero-float = rw (h.full_is, h.gated-is, cell-size p, zero-inside)

header-passes : (file : List ℕ) (room : ℕ) (w : WellFramed file) → WeightsFit w → point_count w ≤ max_points → 28 * point_count w ≤ room → bad_flag file (layout_of file) ≡ false → bad_float file (layout_of file) ≡ false
    → list_any holds (header_refusals file room (framing_of file)) ≡ false
unfolding header_refusals
header-passes file room w o few l a b =
    let n = points-counted file w in
    or_from _ _ (well-framed file w)
    (or_from _ _ (fits file room w o)
    (or_from _ _ (le-ltb max_points (layout_of file).count (omega arith)) (or_from _ _ (le-ltb room (28 * (layout_of file).count) (omega arith)) (or_from _ _ a (or_from _ _ b refl)))))

-- ---- so it is accepted, with all its points

small-byte : (i j : ℕ) → i < board_points → board_byte i j < 256
small-byte i j h = go (eqb j 0) (eqb j 4) (eqb j 8) (eqb j 9)
  where
    go : (a b c d : Bool) → cond a (i / 48) (cond b (i % 48) (cond c (i % 256) (cond d (i / 256) 0))) < 256
    go true b c d = omega arith
    go false true c d = omega arith
    go false false true d = omega arith
    go false false false true = omega arith
    go false false false false = omega arith

pub board-bytes : Bytes board48
board-bytes = short-bytes board_bytes (λ k. go k (dec_lt k (20 * board_points)))
  where
    go : (k : ℕ) → Dec (k < 20 * board_points) → get_or board_bytes k 0 < 256
    go k (yes h) = rw (list_at (20 * board_points) board_at k 0 h) (small-byte (k / 20) (k % 20) (omega arith))
    go k (no h) = rw (list_over (20 * board_points) board_at k 0 (omega (arith, h))) (omega arith)

pub record BoardAccepted (room : ℕ) : Type 0 where
  pub settings : Settings
  pub points : List Point
  pub ruled-so : ruling_of board48 room ≡ accepted settings points
  pub size : length points ≡ 2304

points-are : (f : Layout) → OnBoard f → points_in board48 f ≡ list_of board_points board_point
unfolding points_in
points-are f o = ap (λ (n : ℕ). list_of n (ith_point board48 f)) o.count-is ∙ list_ext nowhere board_points (ith_point board48 f) board_point (board-point f o)

accepted-for : (s : Settings) (ps : List Point) → s.score_frac ≡ Missing → list_any holds (point_refusals Missing ps) ≡ false → ruling_for s ps ≡ accepted s (cell_order ps)
unfolding ruling_for
accepted-for s ps x e = none_passes refused (accepted s (cell_order ps)) (point_refusals s.score_frac ps) (rw x e)

-- no tag 4, no fraction
no_fraction : (file : List ℕ) (f : Layout) → is_some f.weights ≡ false → (settings_of file f).score_frac ≡ Missing
unfolding fraction_of
no_fraction file f e = own-fraction file f ∙ rw e

no-weights : (f : Layout) → weights_size f ≡ 0 → is_some f.weights ≡ false
no-weights f e = false_from_ne_true (is_some f.weights) (λ t. omega (arith, rw t at e))

board-framed : (w : WellFramed board48) × (point_count w ≡ board_points) × (length w.weights ≡ 0)
board-framed = short-framed board_bytes board_points board-size (omega arith)

board-count : (layout_of board48).count ≡ board_points
board-count = points-counted board48 board-framed.0 ∙ board-framed.1

pub board-accepted : (room : ℕ) → 64512 ≤ room → BoardAccepted room
board-accepted room l =
    let v = board-framed in
    let f = layout_of board48 in
    let h = short-fields board_bytes v.0 in
    let ps = list_of board_points board_point in
    let o : OnBoard f = record { points-at = h.points-at; count-is = board-count; unweighed = no-weights f (weights-counted board48 v.0 ∙ v.2) } in
    let q : points_of board48 ≡ ps = points-are f o in
    let e = header-passes board48 room v.0 (inl v.2) (omega (arith, v.1)) (omega (arith, v.1)) (no-flags board_bytes f h) (zero-float board_bytes f h) in
    record {
      settings = settings_of board48 f;
      points = cell_order ps;
      ruled-so = by-points board48 room ∙ none_passes refused (ruling_for (settings_of board48 f) (points_of board48)) (header_refusals board48 room (framing_of board48)) e
          ∙ ap (ruling_for (settings_of board48 f)) q ∙ accepted-for (settings_of board48 f) ps (no_fraction board48 f o.unweighed) points-pass;
      size = sort-length comes_before ps ∙ length-list board_points board_point;
    }

-- "Rows then take up to 64,512 bytes": it needs so many
pub rows-size-is : rows_size ≡ 64512
rows-size-is = refl

pub board-short : (room : ℕ) → room < 64512 → ruling_of board48 room ≡ refused 3
unfolding applies
board-short room l =
    given board48 room 3 (lt-ltb room (28 * (layout_of board48).count) (omega (arith, board-count)))
    (or_from _ _ (well-framed board48 board-framed.0) (or_from _ _ (fits board48 room board-framed.0 (inl board-framed.2)) (or_from _ _ (le-ltb max_points (layout_of board48).count (omega (arith, board-count))) refl)))
