-- How many rounds there can be, of every accepted sheet. Assumes nothing.
use mathlib.Core.Path.{◌≡◌, refl, sym, ap, ◌∙◌}
use mathlib.Core.Bool.{Bool, false, not, ◌&&◌, ◌||◌}
use mathlib.Core.List.{List, []}
use Prim.{yes, no}
use Prim.Native.Nat.{ℕ, ◌+◌, ◌*◌, ◌≤◌, ◌<◌}
use native.Mathlib.Decide.{dec_le}
use native.Mathlib.Omega.{arith}
use lib.Dec.{eqb}
use lib.IntN.{ℤ, pos, ◌+ℤ◌, ◌-ℤ◌, +ℤ_idl, +ℤ_comm, +ℤ-neg_ℤ_cancel}
use lib.ListN.{length, get_or}
use borrow.Author.Tests.{lt-ltb}
use Rattle.folds.proofs.Below.{tally-ext, tally-le}
use Rattle.folds.proofs.Counting.{tally-all}
use Rattle.offsets.specs.declared.Offset.{Offset}
use Rattle.offsets.specs.Offsets.{own, place_of, places}
use Rattle.offsets.proofs.Places.{places-at}
use Rattle.cells.specs.Points.{Point, nowhere, strengths_of}
use Rattle.cells.specs.Cell.{Cell, cell_of, cells_of, offset_by}
use Rattle.grid.specs.InOrder.{CellOrder}
use Rattle.grid.specs.Views.{view_of}
use Rattle.grid.proofs.InOrder.{near-means, mirrored}
use Rattle.sheet_file.specs.declared.Settings.{Settings}
use Rattle.ruling.proofs.Accepted.{sound-sheet}
use Rattle.marks.proofs.Byte.{zero_is}
use Rattle.validate.specs.Validate.{validate_mark}
use Rattle.orientation.specs.Orientation.{orientation_mark}
use Rattle.patches.specs.Patches.{survives}
use Rattle.patches.proofs.Lattices.{square-near, square-places, square-paired}
use Rattle.peel_rounds.specs.Rounds.{Neighbours, left_count}
use Rattle.peel_rounds.proofs.Bound.{rounds-left, rounds-bound}
use Rattle.peel_rounds.proofs.Lattices.{square-once, square-away}
use Rattle.drop_set.specs.Filters.{sides_of, wrong_mark, point_filters, weak_by, point_marks}
use Rattle.promises.specs.Words.{DistinctIndices, rounds_of}
use Rattle.promises.specs.Tally.{different, any_point, index_in}
use Rattle.promises.specs.Longest.{beforehand, left_before, LongestPromise, FewerRoundsThanPoints}
use Rattle.promises.proofs.Leaves.{rounds-are, placed}
use Rattle.promises.proofs.Moving.{validate-in, orientation-in, wrong-in}
use Rattle.promises.proofs.Tallied.{different-all}
use Rattle.std.proofs.Math.Bool.{and-true, or-false}

-- ---- neighbours

-- what is added to a number without altering it is 0, and so an offset that leads from a cell to itself is that of the cell itself
adds-nothing : (z a : ℤ) → z ≡ z +ℤ a → a ≡ pos 0
adds-nothing z a e = sym (+ℤ-neg_ℤ_cancel a z) ∙ ap (λ (x : ℤ). x -ℤ z) (+ℤ_comm a z ∙ sym e ∙ sym (+ℤ_idl z)) ∙ +ℤ-neg_ℤ_cancel (pos 0) z

leads-nowhere : (o : Offset) (c : Cell) → c ≡ offset_by o c → place_of o ≡ place_of own
leads-nowhere o c e = rw (adds-nothing c.u o.du (ap (λ (c : Cell). c.u) e), adds-nothing c.v o.dv (ap (λ (c : Cell). c.v) e))

-- points in cell order are neighbours both ways, and none is its own
neighbours : (s : Settings) (ps : List Point) → CellOrder ps → Neighbours (view_of ps) (places (sides_of s))
unfolding view_of
neighbours s ps o = record {
  mirrored = record { back = mirrored ps o };
  opposites = square-paired;
  once = square-once;
  apart = λ k i h l e.
      let d = get_or (sides_of s) i own in
      let at = places-at (sides_of s) i l in
      let same = near-means ps o k d k h (square-near i l) h (sym (ap (λ (m : ℕ). (view_of ps).near (25 * k + m)) at) ∙ e) in
      square-away i l (at ∙ leads-nowhere d (cell_of (get_or ps k nowhere)) same);
}

-- ---- what was dropped beforehand

module _ (s : Settings) (ps : List Point) where
  abbrev drops : List ℕ
  drops = point_marks s (view_of ps) (cells_of ps)

  abbrev weak : List ℕ
  weak = weak_by s.score_frac (length ps) (strengths_of ps)

  -- the byte before the weak-end filter is 0 just where none of the three filters has marked the point
  none-marks : (k : ℕ) → k < length ps → eqb (get_or drops k 0) 0 ≡ not (validate_mark s (view_of ps) (cells_of ps) k || (orientation_mark (view_of ps) k || (wrong_mark s (view_of ps) k || false)))
  unfolding view_of point_marks
  none-marks k h = zero_is (length ps) k h (point_filters s (view_of ps) (cells_of ps)) [] refl (omega arith) ∙ and-true _

  pub zero-before : (k : ℕ) → k < length ps → eqb (get_or drops k 0) 0 ≡ not (beforehand s ps k)
  zero-before k h = none-marks k h ∙ ap not (three (sym (validate-in s ps k h)) (sym (orientation-in s ps k h)) (sym (wrong-in s ps k h)))
    where
      three : {x y z a b c : Bool} → x ≡ a → y ≡ b → z ≡ c → x || (y || (z || false)) ≡ a || (b || c)
      three {c = c} e f g = rw (e, f, g, or-false c)

  left_is : left_count (view_of ps) drops ≡ left_before s ps
  unfolding view_of
  left_is = tally-ext (survives (length ps) drops) (λ (k : ℕ). not (beforehand s ps k)) (length ps) (λ k h. ap (λ (t : Bool). t && eqb (get_or drops k 0) 0) (lt-ltb k (length ps) h) ∙ zero-before k h)

  -- ---- the bound

  module _ (o : CellOrder ps) where
    few : rounds_of s ps ≤ left_before s ps
    unfolding view_of
    few = rw (rounds-are s ps, ← left_is) (rounds-left (view_of ps) (places (sides_of s)) drops weak (placed s ps o))

    left : 2 ≤ left_before s ps → rounds_of s ps + 1 ≤ left_before s ps
    unfolding view_of
    left h = rw (rounds-are s ps, ← left_is) (rounds-bound (view_of ps) (places (sides_of s)) drops weak (placed s ps o) (square-places (places (sides_of s)) refl) (neighbours s ps o) (rw left_is h))

    bound : 2 ≤ length ps → rounds_of s ps + 1 ≤ length ps
    bound h =
        let all = tally-le (λ (k : ℕ). not (beforehand s ps k)) (length ps) in
        elim (dec_le 2 (left_before s ps)) [ yes l ↦ omega (arith, left l, all) | no l ↦ omega (arith, few, l, h) ]

    indices : DistinctIndices ps → 2 ≤ length ps → rounds_of s ps + 1 ≤ different any_point (index_in ps) (length ps)
    indices one h = rw (different-all any_point (index_in ps) (length ps) one) (omega (arith, bound h, tally-all (length ps)))

pub longest : LongestPromise
longest s ps a =
    let o = (sound-sheet s ps a).order in
    record { bound = bound s ps o; left = left s ps o; few = few s ps o; indices = indices s ps o }

pub fewer-rounds : FewerRoundsThanPoints
fewer-rounds s ps a one none two = omega (arith, (longest s ps a).bound two)
