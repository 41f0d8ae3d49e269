-- Positions for dropped points, of every accepted sheet: they are found by the rule on cells, and depend on the kept points alone. Assumes nothing.
use mathlib.Core.Path.{◌≡◌, refl, sym, ap, ◌∙◌}
use mathlib.Core.Bool.{Bool, true, false, not, ◌&&◌, true≢false}
use mathlib.Core.Logic.{◌⊎◌, inl, inr}
use mathlib.Core.List.{List}
use Prim.{Dec, yes, no}
use Prim.Native.Nat.{ℕ, ◌+◌, ◌≤◌, ◌<◌}
use native.Mathlib.Decide.{dec_lt}
use native.Mathlib.Omega.{arith}
use lib.Dec.{eqb, ltb}
use lib.IntN.{ℤ, +ℤ_idr}
use lib.Ieee.{Float, nan}
use lib.ListN.{length, get_or}
use borrow.Author.Tests.{ltb-true, lt-ltb, not-true}
use Rattle.folds.specs.Arith.{f32}
use Rattle.float.proofs.Within.{Within}
use Rattle.folds.proofs.Below.{first_holds, first-hit}
use Rattle.folds.proofs.Lists.{list_at}
use Rattle.offsets.specs.declared.Offset.{Offset}
use Rattle.offsets.specs.Offsets.{own, is_near}
use Rattle.view.specs.View.{View, rank_at}
use Rattle.cells.specs.Points.{Point, nowhere}
use Rattle.cells.specs.Cell.{Cell, cell_of, moved, coincide, offset_by}
use Rattle.cells.proofs.Edges.{same-cell, coincide-same, coincide-true, agree-moved, offset-moved}
use Rattle.cells.proofs.Keys.{cell_at}
use Rattle.grid.specs.InOrder.{CellOrder}
use Rattle.grid.specs.Views.{view_of}
use Rattle.grid.proofs.InOrder.{near-means, near-found}
use Rattle.grid.proofs.Moved.{view-moved}
use Rattle.sheet_file.specs.Limit.{outside}
use Rattle.sheet_file.specs.declared.Settings.{Settings}
use Rattle.patches.specs.Patches.{survives}
use Rattle.patches.proofs.Lattices.{square-near}
use Rattle.peel_rounds.proofs.Lattices.{square-once}
use Rattle.predict.specs.Predict.{opposite, side_at, prediction}
use Rattle.predict.specs.Fills.{kept_at, value_at, prediction_at, fills_of}
use Rattle.predict.specs.Theorems.{both_there, NoPairExactly, WithPairs, Met}
use Rattle.predict.specs.declared.PredictedPosition.{PredictedPosition}
use Rattle.predict.specs.Predict.{Prediction}
use Rattle.std.specs.Prelude.{None, Some}
use Rattle.predict.proofs.Theorems.{near-opposite, square-opposed, half-of-offsets, no-pair-exactly, with-pairs, depends-on-kept}
use Rattle.predict.proofs.Finite.{prediction-finite}
use Rattle.predict.proofs.ByRank.{fill-past, fill-kept, fill-dropped, fills_same}
use Rattle.ruling.specs.Ruling.{ruling_of}
use Rattle.ruling.specs.Offset.{moved_file}
use Rattle.ruling.proofs.Order.{same-ruling}
use Rattle.ruling.proofs.Accepted.{sound-sheet}
use Rattle.ruling.proofs.MovedFile.{moved-bytes, moved-offset, moved-in-range}
use Rattle.edge_shape.proofs.Cosines.{within-limit}
use Rattle.drop_set.specs.Filters.{sides_of}
use Rattle.judging.specs.Judging.{judged_for, fills_for}
use Rattle.promises.specs.Words.{marks_in, kept_rank}
use Rattle.promises.specs.Fills.{fill_in, dropped_rank, kept_in, kept_there, kept_x, kept_y, predicted_in, PairAt, Fills, FillsPromise, TwoPairsPromise, FiniteFillsPromise, KeptAlike, SameFills, KeptAlonePromise, KeptMovedPromise, FillsOrderPromise, MovedFillsPromise, OffsetFillsPromise, MovedFileFillsPromise}
use Rattle.promises.proofs.OnMap.{cells-apart}
use Rattle.promises.proofs.Theorems.{moved-marks, moved-sheet}
use Rattle.std.proofs.lemmas.Bool.{and_from, and_parts, false_from_ne_true as never_true, or_parts}
use Rattle.std.specs.Cmp.{both_ways}

-- ---- the lattice, and the view

-- each offset of the lattice and its opposite is within 2
met-near : (s : Settings) (o : Offset) → Met (sides_of s) o → is_near o ≡ true
met-near s o m = go m.2
  where
    near : is_near (side_at (sides_of s) m.0) ≡ true
    near = square-near m.0 m.1

    go : (o ≡ side_at (sides_of s) m.0) ⊎ (o ≡ opposite (side_at (sides_of s) m.0)) → is_near o ≡ true
    go (inl e) = ap is_near e ∙ near
    go (inr e) = ap is_near e ∙ near-opposite (side_at (sides_of s) m.0) near

x-at : (ps : List Point) (k : ℕ) → k < length ps → (view_of ps).x k ≡ f32 (get_or ps k nowhere).x
unfolding view_of
x-at ps k h = list_at (length ps) (λ (k : ℕ). f32 (get_or ps k nowhere).x) k nan h

y-at : (ps : List Point) (k : ℕ) → k < length ps → (view_of ps).y k ≡ f32 (get_or ps k nowhere).y
unfolding view_of
y-at ps k h = list_at (length ps) (λ (k : ℕ). f32 (get_or ps k nowhere).y) k nan h

module _ (s : Settings) (ps : List Point) where
  abbrev n : ℕ
  n = length ps

  abbrev cell : ℕ → Cell
  cell k = cell_of (get_or ps k nowhere)

  -- ---- dropped and kept

  kept-below : (k : ℕ) → kept_rank s ps k ≡ true → k < n
  kept-below k e = ltb-true k n (and_parts (ltb k n) (eqb (marks_in s ps k) 0) e).0

  dropped-below : (k : ℕ) → dropped_rank s ps k ≡ true → k < n
  dropped-below k e = ltb-true k n (and_parts (ltb k n) (not (eqb (marks_in s ps k) 0)) e).0

  dropped-marked : (k : ℕ) → dropped_rank s ps k ≡ true → eqb (marks_in s ps k) 0 ≡ false
  dropped-marked k e = not-true (eqb (marks_in s ps k) 0) (and_parts (ltb k n) (not (eqb (marks_in s ps k) 0)) e).1

  dropped-not-kept : (k : ℕ) → dropped_rank s ps k ≡ true → kept_rank s ps k ≡ true → ⊥
  dropped-not-kept k d e = true≢false (sym (and_parts (ltb k n) (eqb (marks_in s ps k) 0) e).1 ∙ dropped-marked k d)

  -- ---- the fills by rank

  abbrev w : View
  w = view_of ps

  abbrev marks : List ℕ
  marks = (judged_for s ps).marks

  fills-are : fills_for s ps ≡ fills_of w (sides_of s) marks
  unfolding fills_for
  fills-are = refl

  count-is : w.count ≡ n
  unfolding view_of
  count-is = refl

  fill_is : (k : ℕ) → fill_in s ps k ≡ get_or (fills_of w (sides_of s) marks) k None
  fill_is k = ap (λ (l : List Prediction). get_or l k None) fills-are

  kept-none : (k : ℕ) → kept_rank s ps k ≡ true → fill_in s ps k ≡ None
  kept-none k e = fill_is k ∙ fill-kept w (sides_of s) marks k (omega (arith, count-is, kept-below k e)) (and_parts (ltb k n) (eqb (marks_in s ps k) 0) e).1

  fill-viewed : (k : ℕ) → dropped_rank s ps k ≡ true → fill_in s ps k ≡ prediction_at w (sides_of s) marks k
  fill-viewed k e = fill_is k ∙ fill-dropped w (sides_of s) marks k (omega (arith, count-is, dropped-below k e)) (dropped-marked k e)

  pairs-dropped : (k : ℕ) (p : PredictedPosition) → fill_in s ps k ≡ Some p → dropped_rank s ps k ≡ true
  pairs-dropped k p e = go (dec_lt k n)
    where
      never : fill_in s ps k ≡ None → ⊥
      never f = let z : ◌≡◌ {A = ℕ} 0 1 = cc in omega arith

      go : Dec (k < n) → dropped_rank s ps k ≡ true
      go (yes h) =
          let m = eqb (marks_in s ps k) 0 in
          and_from (ltb k n) (not m) (lt-ltb k n h) (ap not (never_true m (λ f. never (fill_is k ∙ fill-kept w (sides_of s) marks k (omega (arith, count-is)) f))))
      go (no h) = absurd (never (fill_is k ∙ fill-past w (sides_of s) marks k (omega (arith, count-is, h))))

  -- ---- the kept points by cell

  module _ (order : CellOrder ps) where
    one_cell : (j k : ℕ) → j < n → k < n → cell j ≡ cell k → j ≡ k
    one_cell j k a b e = cells-apart ps order j k a b (cell_at ps j a ∙ e ∙ sym (cell_at ps k b))

    abbrev is_in : Cell → ℕ → Bool
    is_in c j = kept_rank s ps j && coincide (cell j) c

    -- a kept point is found in its cell ..
    kept-at : (c : Cell) (j : ℕ) → kept_rank s ps j ≡ true → cell j ≡ c → kept_in s ps c ≡ j
    kept-at c j e q = first-hit (is_in c) n j below (and_from (kept_rank s ps j) (coincide (cell j) c) e (coincide-same (cell j) c q)) before
      where
        below : j < n
        below = kept-below j e

        before : (i : ℕ) → i < j → is_in c i ≡ false
        before i l = never_true (is_in c i) (λ t. omega (arith, one_cell i j (omega (arith, below)) below (coincide-true (cell i) c (and_parts (kept_rank s ps i) (coincide (cell i) c) t).1 ∙ sym q)))

    kept-there : (c : Cell) (j : ℕ) → kept_rank s ps j ≡ true → cell j ≡ c → kept_there s ps c ≡ true
    kept-there c j e q = ap (λ (i : ℕ). ltb i n) (kept-at c j e q) ∙ lt-ltb j n (kept-below j e)

    -- .. and what is found is one
    there-kept : (c : Cell) → kept_there s ps c ≡ true → (kept_rank s ps (kept_in s ps c) ≡ true) × (cell (kept_in s ps c) ≡ c)
    there-kept c e =
        let j = kept_in s ps c in
        let t = first_holds (is_in c) 0 n (ltb-true j n e) in
        ((and_parts (kept_rank s ps j) (coincide (cell j) c) t).0, coincide-true (cell j) c (and_parts (kept_rank s ps j) (coincide (cell j) c) t).1)

    -- ---- by cells

    module _ (k : ℕ) (d : dropped_rank s ps k ≡ true) where
      abbrev to : Offset → Cell
      to o = offset_by o (cell k)

      here : k < n
      here = dropped-below k d

      kept-is : (j : ℕ) → survives w.count marks j ≡ kept_rank s ps j
      kept-is j = ap (λ (m : ℕ). ltb j m && eqb (get_or marks j 0) 0) count-is

      module _ (o : Offset) (near : is_near o ≡ true) where
        abbrev r : ℕ
        r = rank_at w k o

        -- the rank at an offset is that of the kept point there
        found : kept_at w marks k o ≡ true → kept_in s ps (to o) ≡ r
        found e = let kept = sym (kept-is r) ∙ e in kept-at (to o) r kept (near-means ps order k o r here near (kept-below r kept) refl)

        same-there : kept_at w marks k o ≡ kept_there s ps (to o)
        same-there = both_ways (kept_at w marks k o) (kept_there s ps (to o)) (λ e. ap (λ (j : ℕ). ltb j n) (found e) ∙ lt-ltb r n (kept-below r (sym (kept-is r) ∙ e))) from
          where
            from : kept_there s ps (to o) ≡ true → kept_at w marks k o ≡ true
            from e =
                let j = kept_in s ps (to o) in
                let t = there-kept (to o) e in
                ap (survives w.count marks) (near-found ps order k o j here near (kept-below j t.0) t.1) ∙ kept-is j ∙ t.0

        same-x : kept_at w marks k o ≡ true → value_at w w.x k o ≡ kept_x s ps (to o)
        same-x e = x-at ps r (kept-below r (sym (kept-is r) ∙ e)) ∙ ap (λ (j : ℕ). f32 (get_or ps j nowhere).x) (sym (found e))

        same-y : kept_at w marks k o ≡ true → value_at w w.y k o ≡ kept_y s ps (to o)
        same-y e = y-at ps r (kept-below r (sym (kept-is r) ∙ e)) ∙ ap (λ (j : ℕ). f32 (get_or ps j nowhere).y) (sym (found e))

      by-cell : fill_in s ps k ≡ predicted_in s ps (cell k)
      by-cell =
          fill-viewed k d
          ∙ depends-on-kept (sides_of s) (kept_at w marks k) (λ (o : Offset). kept_there s ps (to o)) (value_at w w.x k) (λ (o : Offset). kept_x s ps (to o)) (value_at w w.y k) (λ (o : Offset). kept_y s ps (to o))
          (record { there = λ o m. same-there o (met-near s o m); x = λ o m. same-x o (met-near s o m); y = λ o m. same-y o (met-near s o m) })

      -- ---- pairs

      abbrev there : Offset → Bool
      there o = kept_there s ps (to o)

      -- the cell's own point is not kept
      own-dropped : there own ≡ false
      own-dropped =
          never_true (there own)
          (λ e.
          let j = kept_in s ps (to own) in
          let t = there-kept (to own) e in
          let q = one_cell j k (kept-below j t.0) here (t.1 ∙ same-cell (+ℤ_idr (cell k).u) (+ℤ_idr (cell k).v)) in
          dropped-not-kept k d (ap (kept_rank s ps) (sym q) ∙ t.0))

      pair_is : (i : ℕ) → i < length (sides_of s) → both_there (sides_of s) there i ≡ true → PairAt s ps k i (kept_in s ps (to (side_at (sides_of s) i))) (kept_in s ps (to (opposite (side_at (sides_of s) i))))
      pair_is i h e =
          let o = side_at (sides_of s) i in
          let f = there-kept (to o) (and_parts (there o) (there (opposite o)) e).0 in
          let b = there-kept (to (opposite o)) (and_parts (there o) (there (opposite o)) e).1 in
          record { offset = h; first-kept = f.0; second-kept = b.0; first_cell = f.1; second-cell = b.1 }

      is-pair : (i j m : ℕ) → PairAt s ps k i j m → both_there (sides_of s) there i ≡ true
      is-pair i j m p =
          let o = side_at (sides_of s) i in
          and_from (there o) (there (opposite o)) (kept-there (to o) j p.first-kept p.first_cell) (kept-there (to (opposite o)) m p.second-kept p.second-cell)

      abbrev exactly : NoPairExactly (sides_of s) there (λ (o : Offset). kept_x s ps (to o)) (λ (o : Offset). kept_y s ps (to o))
      exactly = no-pair-exactly (sides_of s) square-opposed there (λ (o : Offset). kept_x s ps (to o)) (λ (o : Offset). kept_y s ps (to o))

      no-pair : ((i j m : ℕ) → PairAt s ps k i j m → ⊥) → fill_in s ps k ≡ None
      no-pair h = by-cell ∙ exactly.none (λ i l. never_true (both_there (sides_of s) there i) (λ e. h i _ _ (pair_is i l e)))

      no-pair-only : fill_in s ps k ≡ None → (i j m : ℕ) → PairAt s ps k i j m → ⊥
      no-pair-only e i j m p = true≢false (sym (is-pair i j m p) ∙ exactly.none_only (sym by-cell ∙ e) i p.offset)

      module _ (p : PredictedPosition) (e : fill_in s ps k ≡ Some p) where
        abbrev shown : WithPairs (sides_of s) there (λ (o : Offset). kept_x s ps (to o)) (λ (o : Offset). kept_y s ps (to o)) p
        shown = with-pairs (sides_of s) there (λ (o : Offset). kept_x s ps (to o)) (λ (o : Offset). kept_y s ps (to o)) p (sym by-cell ∙ e)

        half-pairs : p.n_axis_pairs + p.n_axis_pairs ≤ length (sides_of s)
        half-pairs = omega (arith, shown.pairs, half-of-offsets (sides_of s) square-opposed square-once there own-dropped)

        pair-there : (i : ℕ) × (j : ℕ) × (m : ℕ) × PairAt s ps k i j m
        pair-there = let v = shown.found in (v.0, _, _, pair_is v.0 v.1 v.2)

    all-fills : Fills s ps
    all-fills = record {
      by-cells = by-cell;
      not-kept = kept-none;
      only-dropped = pairs-dropped;
      few-pairs = λ k p e. half-pairs k (pairs-dropped k p e) p e;
      none = no-pair;
      none_only = no-pair-only;
      some_pair = λ k p e. pair-there k (pairs-dropped k p e) p e;
    }

pub fills : FillsPromise
fills s ps a = all-fills s ps (sound-sheet s ps a).order

pub two-pairs : TwoPairsPromise
two-pairs s ps a k p f = omega (arith, (fills s ps a).few-pairs k p f)

pub finite-fills : FiniteFillsPromise
finite-fills s ps a k p f =
    let order = (sound-sheet s ps a).order in
    let d = pairs-dropped s ps k p f in
    prediction-finite (sides_of s) (there s ps order k d) (omega arith) (λ (o : Offset). kept_x s ps (to s ps order k d o)) (λ (o : Offset). kept_y s ps (to s ps order k d o)) p (λ o m t. limited (to s ps order k d o) (there-kept s ps order (to s ps order k d o) t).0) (sym (by-cell s ps order k d) ∙ f)
  where
    limited : (c : Cell) → kept_rank s ps (kept_in s ps c) ≡ true → Within 14 (kept_x s ps c) × Within 14 (kept_y s ps c)
    limited c h =
        let j = kept_in s ps c in
        let l = or_parts (outside (kept_x s ps c)) (outside (kept_y s ps c)) ((sound-sheet s ps a).limits j (kept-below s ps j h)) in
        (within-limit (kept_x s ps c) l.0, within-limit (kept_y s ps c) l.1)

-- ---- kept points alike

module _ (move : Cell → Cell) (apart : (c e : Cell) → move c ≡ move e → c ≡ e) (step : (o : Offset) (c : Cell) → offset_by o (move c) ≡ move (offset_by o c)) where
  module _ (s t : Settings) (ps qs : List Point) (order : CellOrder ps) (order' : CellOrder qs) (alike : KeptAlike move s ps t qs) where
    there-alike : (c : Cell) → kept_there t qs (move c) ≡ kept_there s ps c
    there-alike c = both_ways (kept_there t qs (move c)) (kept_there s ps c) to from
      where
        to : kept_there t qs (move c) ≡ true → kept_there s ps c ≡ true
        to e =
            let v = there-kept t qs order' (move c) e in
            let b = alike.back (kept_in t qs (move c)) v.0 in
            kept-there s ps order c b.0 b.1 (apart (cell_of (get_or ps b.0 nowhere)) c (sym b.2.cell ∙ v.1))

        from : kept_there s ps c ≡ true → kept_there t qs (move c) ≡ true
        from e =
            let v = there-kept s ps order c e in
            let b = alike.there (kept_in s ps c) v.0 in
            kept-there t qs order' (move c) b.0 b.1 (b.2.cell ∙ ap move v.1)

    values-alike : (c : Cell) → kept_there s ps c ≡ true → (kept_x t qs (move c) ≡ kept_x s ps c) × (kept_y t qs (move c) ≡ kept_y s ps c)
    values-alike c e =
        let v = there-kept s ps order c e in
        let b = alike.there (kept_in s ps c) v.0 in
        let m = kept-at t qs order' (move c) b.0 b.1 (b.2.cell ∙ ap move v.1) in (
          ap (λ (i : ℕ). f32 (get_or qs i nowhere).x) m ∙ ap f32 b.2.x,
          ap (λ (i : ℕ). f32 (get_or qs i nowhere).y) m ∙ ap f32 b.2.y,
        )

    predicted-alike : sides_of s ≡ sides_of t → (c : Cell) → predicted_in t qs (move c) ≡ predicted_in s ps c
    predicted-alike same c =
        depends-on-kept (sides_of t) (λ (o : Offset). kept_there t qs (offset_by o (move c))) there (λ (o : Offset). kept_x t qs (offset_by o (move c))) x (λ (o : Offset). kept_y t qs (offset_by o (move c))) y
        (record { there = λ o m. same-there o; x = λ o m e. ap (kept_x t qs) (step o c) ∙ (values-alike (offset_by o c) (kept o e)).0; y = λ o m e. ap (kept_y t qs) (step o c) ∙ (values-alike (offset_by o c) (kept o e)).1 })
        ∙ ap (λ (l : List Offset). prediction l there x y) (sym same)
      where
        there : Offset → Bool
        there o = kept_there s ps (offset_by o c)

        x : Offset → Float
        x o = kept_x s ps (offset_by o c)

        y : Offset → Float
        y o = kept_y s ps (offset_by o c)

        same-there : (o : Offset) → kept_there t qs (offset_by o (move c)) ≡ kept_there s ps (offset_by o c)
        same-there o = ap (kept_there t qs) (step o c) ∙ there-alike (offset_by o c)

        kept : (o : Offset) → kept_there t qs (offset_by o (move c)) ≡ true → kept_there s ps (offset_by o c) ≡ true
        kept o e = sym (same-there o) ∙ e

  same-fills : (s t : Settings) (ps qs : List Point) → CellOrder ps → CellOrder qs → sides_of s ≡ sides_of t → SameFills move s ps t qs
  same-fills s t ps qs order order' same alike k m d e q =
      by-cell t qs order' m e ∙ ap (predicted_in t qs) q ∙ predicted-alike s t ps qs order order' alike same (cell_of (get_or ps k nowhere)) ∙ sym (by-cell s ps order k d)

pub kept-alone : KeptAlonePromise
kept-alone s t ps qs a b same = same-fills (λ (c : Cell). c) (λ c d q. q) (λ o c. refl) s t ps qs (sound-sheet s ps a).order (sound-sheet t qs b).order same

-- cells that are one when both are moved were one
moved-apart : (i j : ℤ) (c d : Cell) → moved i j c ≡ moved i j d → c ≡ d
moved-apart i j c d q = coincide-true c d (sym (rw (agree-moved c.u d.u i, agree-moved c.v d.v j)) ∙ coincide-same (moved i j c) (moved i j d) q)

pub kept-moved : KeptMovedPromise
kept-moved s t ps qs a b same i j = same-fills (moved i j) (moved-apart i j) step s t ps qs (sound-sheet s ps a).order (sound-sheet t qs b).order same
  where
    step : (o : Offset) (c : Cell) → offset_by o (moved i j c) ≡ moved i j (offset_by o c)
    step o c = let d = offset_by o c in sym (coincide-true (moved i j d) (offset_by o (moved i j c)) (offset-moved i j o c d ∙ coincide-same d d refl))

-- ---- another order, and an offset

pub fills-another-order : FillsOrderPromise
fills-another-order file other f b e r room s t ps qs p q = let z = same-ruling file other f b e r room in cc

fills-stay : (s : Settings) (ps qs : List Point) → length qs ≡ length ps → view_of qs ≡ view_of ps → ((k : ℕ) → kept_rank s qs k ≡ kept_rank s ps k) → fills_for s qs ≡ fills_for s ps
fills-stay s ps qs size view same =
    fills-are s qs ∙ ap (λ (w : View). fills_of w (sides_of s) (judged_for s qs).marks) view
    ∙ fills_same (view_of ps) (sides_of s) (judged_for s qs).marks (judged_for s ps).marks (λ k h. marked k (omega (arith, count-is s ps))) ∙ sym (fills-are s ps)
  where
    marked : (k : ℕ) → k < length ps → eqb (marks_in s qs k) 0 ≡ eqb (marks_in s ps k) 0
    marked k h = rw (lt-ltb k (length qs) (omega arith), lt-ltb k (length ps) h) at (same k)

pub moved-along-fills : MovedFillsPromise
moved-along-fills x a b s ps m =
    let r = moved-marks x a b s ps m in
    let n = r.along in
    let stay = fills-stay s ps n.points n.size (view-moved a b ps n.points n.size n.along) in
    record { along = n; kept = stay; same = λ h. stay (r.kept h) }

pub moved-fills : OffsetFillsPromise
moved-fills file other a b bf bo o room in-range s ps e = moved-along-fills (ruling_of other room) a b s ps (moved-sheet file other a b bf bo o room in-range s ps e).along

pub moved-file-fills : MovedFileFillsPromise
moved-file-fills file a b bytes room s ps e in-range =
    let o = moved-offset file a b room s ps e in-range in
    moved-fills file (moved_file file a b) a b bytes (moved-bytes file a b bytes) o room (moved-in-range file a b room s ps e in-range) s ps e
