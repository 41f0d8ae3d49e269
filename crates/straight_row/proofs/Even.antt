-- In a row all neighbours are at one distance, so no edge fails and no end has a kink; and no cell votes. Assumes nothing.
use mathlib.Core.Path.{◌≡◌, refl, sym, ap, ◌∙◌}
use mathlib.Core.Bool.{Bool, true, false, not, cond, ◌&&◌, ◌||◌, true≢false, false≢true}
use mathlib.Core.List.{List}
use Prim.Native.Nat.{ℕ, ◌+◌, ◌/◌, ◌≤◌, ◌<◌}
use native.Mathlib.Omega.{arith}
use lib.Dec.{eqb, leb}
use lib.ListN.{length}
use borrow.Author.Tests.{ltb-true, lt-leb, leb-true}
use lib.Ieee.{Float, nan, mul, lt, of_bits}
use Rattle.folds.specs.Arith.{◌⊖◌, ◌⊗◌, zero_f}
use Rattle.folds.specs.Below.{some, tally}
use Rattle.folds.specs.Lists.{All, listed}
use Rattle.folds.proofs.Below.{some-no, tally-mono}
use Rattle.folds.proofs.Counting.{tally-no}
use Rattle.folds.proofs.Lists.{all_listed, listed-length}
use Rattle.float.specs.Constants.{overlong_ratio, global_overlong_ratio}
use Rattle.float.specs.Scalar.{norm_of}
use Rattle.sort.specs.Sorted.{sort}
use Rattle.sort.proofs.Sorted.{sort-all, sort-length, all-at}
use Rattle.median.specs.Median.{median_of}
use Rattle.offsets.specs.declared.Offset.{Offset}
use Rattle.offsets.specs.Offsets.{±0, own, next_u, prev_u, next_v, prev_v, is_near, place_of, offset_of}
use Rattle.offsets.proofs.Places.{offset_near}
use Rattle.cells.specs.Cell.{agree}
use Rattle.cells.proofs.Edges.{agree_same}
use Rattle.view.specs.View.{View, rank_at, present, degree_at}
use Rattle.edges.specs.declared.StoredEdge.{StoredEdge}
use Rattle.edges.specs.Edges.{edge_by, edge_at, no_edge, stored_at}
use Rattle.wrong_label_filters.specs.Judged.{positive_edge, in_window, window_lens, sheet_lens, window_x, window_y, overlong, off_axis, fails, end_of_failing, edge_mark}
use Rattle.wrong_label_filters.specs.Frontier.{distance, kink, kink_at, last_in_line, end_mark, frontier_mark}
use Rattle.orientation.specs.Orientation.{vote_at, votes_for, orientation_mark}
use Rattle.straight_row.specs.Row.{Row, seven}
use Rattle.straight_row.proofs.Row.{next-apart, norm-back}
use Rattle.std.proofs.Math.Bool.{and-false}
use Rattle.std.proofs.lemmas.Bool.{and_from, and_parts, false_from_ne_true}
use Rattle.wrong_label_filters.proofs.FailingEdges.{over-is}

-- ---- what the definitions say, by their parts

kink-is : (w : View) (inward : Offset) (k : ℕ) → let a = rank_at w k inward in let b = rank_at w a inward in let c = rank_at w b inward in
    kink_at w inward k ≡ present w k inward && (present w a inward && (present w b inward && (leb (degree_at w k) 2 && kink (distance w k a) (distance w a b) (distance w b c))))
unfolding kink_at
kink-is w inward k = refl

frontier-is : (w : View) (k : ℕ) → frontier_mark w k
    ≡ end_mark w w.row next_u k || (end_mark w (last_in_line w w.row) prev_u k || (end_mark w w.column next_v k || end_mark w (last_in_line w w.column) prev_v k))
unfolding frontier_mark
frontier-is w k = refl

edge-is : (w : View) (o : Offset) (k : ℕ) → (stored_at w o k).len ≡ cond (present w k o) (distance w k (rank_at w k o)) zero_f
unfolding edge_at distance
edge-is w o k = go (present w k o)
  where
    go : (b : Bool) → (cond b (edge_by (w.x (rank_at w k o) ⊖ w.x k) (w.y (rank_at w k o) ⊖ w.y k)) no_edge).len.value ≡ cond b (norm_of (w.x (rank_at w k o) ⊖ w.x k) (w.y (rank_at w k o) ⊖ w.y k)) zero_f
    go true = refl
    go false = refl

window-is : (w : View) (E : ℕ → StoredEdge) (k j : ℕ) → in_window w E k j ≡ not (eqb j (place_of own)) && (present w k (offset_of j) && positive_edge w E (rank_at w k (offset_of j)))
unfolding in_window
window-is w E k j = refl

window-long : (w : View) (E : ℕ → StoredEdge) (k : ℕ) → length (window_lens w E k) ≡ tally (in_window w E k) 25
unfolding window_lens
window-long w E k = listed-length (in_window w E k) (λ j. (E (rank_at w k (offset_of j))).len) 25

fails-is : (w : View) (E : ℕ → StoredEdge) (k : ℕ) → fails w E k ≡ positive_edge w E k
    && cond (leb 5 (length (window_lens w E k)))
    (overlong overlong_ratio (window_lens w E k) (E k).len || off_axis (window_x w E k) (window_y w E k) (E k).ux (E k).uy)
    (leb 8 (length (sheet_lens w E)) && overlong global_overlong_ratio (sheet_lens w E) (E k).len)
unfolding fails
fails-is w E k = refl

end_is : (w : View) (E : ℕ → StoredEdge) (o : Offset) (m : ℕ) → end_of_failing w E o m ≡ some (λ k. (eqb k m || eqb (rank_at w k o) m) && fails w E k) w.count
unfolding end_of_failing
end_is w E o m = refl

-- ---- by computing

no-kink : kink seven seven seven ≡ false
unfolding kink
no-kink = refl

not-long : lt (global_overlong_ratio ⊗ seven) seven ≡ false
unfolding lt mul of_bits
not-long = refl

no_length : lt zero_f zero_f ≡ false
unfolding lt of_bits
no_length = refl

-- the places along the row, but the corner's own
abbrev along_row : ℕ → Bool
along_row j = not (eqb j (place_of own)) && agree (offset_of j).dv ±0

four-along : tally along_row 25 ≡ 4
unfolding tally
four-along = refl

-- ---- the median of a list of sevens

median-seven : (l : List Float) → All (λ (a : Float). a ≡ seven) l → 0 < length l → median_of l ≡ seven
unfolding median_of
median-seven l a h =
    all-at (λ (a : Float). a ≡ seven) nan (sort lt l) (sort-all lt (λ (a : Float). a ≡ seven) l a) (length l / 2) (omega (arith, sort-length lt l))

module _ (w : View) (r : Row w) where
  -- nothing stands beside the row
  absent : (k : ℕ) (o : Offset) → k < w.count → is_near o ≡ true → (o.dv ≡ ±0 → ⊥) → present w k o ≡ false
  absent k o h near n = false_from_ne_true (present w k o) (λ e. n (r.beside k o h near e))

  no-next-v : (k : ℕ) → k < w.count → present w k next_v ≡ false
  no-next-v k h = absent k next_v h refl (λ e. false≢true (agree_same next_v.dv ±0 e))

  no-prev-v : (k : ℕ) → k < w.count → present w k prev_v ≡ false
  no-prev-v k h = absent k prev_v h refl (λ e. false≢true (agree_same prev_v.dv ±0 e))

  -- ---- orientation

  no-vote : (k : ℕ) → k < w.count → vote_at w k ≡ 0
  unfolding vote_at
  no-vote k h = rw (no-next-v k h, and-false (present w k next_u))

  no-votes : votes_for w 1 ≡ 0
  unfolding votes_for
  no-votes = tally-no (λ k. eqb (vote_at w k) 1) w.count (λ k h. ap (λ (v : ℕ). eqb v 1) (no-vote k h))

  pub no-orientation : (k : ℕ) → orientation_mark w k ≡ false
  unfolding orientation_mark
  no-orientation k = rw no-votes

  -- ---- distances

  -- the points at offset o from others are 7 from them
  abbrev Even : Offset → Type 0
  Even o = (k : ℕ) → k < w.count → present w k o ≡ true → distance w k (rank_at w k o) ≡ seven

  even-next-u : Even next_u
  unfolding distance
  even-next-u k h e =
      let a = r.ahead k h e in
      rw a (next-apart w r k (omega (arith, a, ltb-true (rank_at w k next_u) w.count e)))

  even-prev-u : Even prev_u
  unfolding distance
  even-prev-u k h e =
      let j = rank_at w k prev_u in
      let b = r.behind k h e in
      let back : norm_of (w.x (j + 1) ⊖ w.x j) (w.y (j + 1) ⊖ w.y j) ≡ seven = next-apart w r j (omega (arith, b)) in
      norm-back w r j k (ltb-true j w.count e) h ∙ (rw b at back)

  even-next-v : Even next_v
  even-next-v k h e = absurd (true≢false (sym e ∙ no-next-v k h))

  even-prev-v : Even prev_v
  even-prev-v k h e = absurd (true≢false (sym e ∙ no-prev-v k h))

  -- ---- the frontier

  even-spacing : (o : Offset) → Even o → (k : ℕ) → k < w.count → kink_at w o k ≡ false
  even-spacing o even k h =
      let a = rank_at w k o in
      let b = rank_at w a o in
      let c = rank_at w b o in
      kink-is w o k
      ∙ chain (present w k o) (present w a o) (present w b o) (leb (degree_at w k) 2) (kink (distance w k a) (distance w a b) (distance w b c))
      (λ p q s. rw (even k h p, even a (ltb-true a w.count p) q, even b (ltb-true b w.count q) s) no-kink)
    where
      chain : (p q s t u : Bool) → (p ≡ true → q ≡ true → s ≡ true → u ≡ false) → p && (q && (s && (t && u))) ≡ false
      chain false q s t u h = refl
      chain true false s t u h = refl
      chain true true false t u h = refl
      chain true true true false u h = refl
      chain true true true true u h = h refl refl refl

  pub no-frontier : (k : ℕ) → k < w.count → frontier_mark w k ≡ false
  no-frontier k h =
      frontier-is w k
      ∙ rw (even-spacing next_u even-next-u k h, even-spacing prev_u even-prev-u k h, even-spacing next_v even-next-v k h, even-spacing prev_v even-prev-v k h)
      (nowhere (eqb (w.row k) k) (eqb (last_in_line w w.row k) k) (eqb (w.column k) k) (eqb (last_in_line w w.column k) k))
    where
      nowhere : (a b c d : Bool) → (a && false) || ((b && false) || ((c && false) || (d && false))) ≡ false
      nowhere a b c d = rw (and-false a, and-false b, and-false c, and-false d)

  -- ---- edges

  -- a window has four edges at most
  small-window : (E : ℕ → StoredEdge) (k : ℕ) → k < w.count → length (window_lens w E k) ≤ 4
  small-window E k h = omega (arith, window-long w E k, four-along, tally-mono (in_window w E k) along_row 25 in_row)
    where
      in_row : (j : ℕ) → j < 25 → in_window w E k j ≡ true → along_row j ≡ true
      in_row j l e =
          let other = not (eqb j (place_of own)) in
          let rest = present w k (offset_of j) && positive_edge w E (rank_at w k (offset_of j)) in
          let t : other && rest ≡ true = sym (window-is w E k j) ∙ e in
          let there = (and_parts (present w k (offset_of j)) (positive_edge w E (rank_at w k (offset_of j))) (and_parts other rest t).1).0 in
          and_from other (agree (offset_of j).dv ±0) (and_parts other rest t).0 (agree_same (offset_of j).dv ±0 (r.beside k (offset_of j) h (offset_near j l) there))

  module _ (o : Offset) (even : Even o) where
    abbrev E : ℕ → StoredEdge
    E = stored_at w o

    -- an edge of positive length has the length 7
    long-seven : (k : ℕ) → k < w.count → positive_edge w E k ≡ true → (E k).len ≡ seven
    long-seven k h e = edge-is w o k ∙ go (present w k o) refl (ap (lt zero_f) (sym (edge-is w o k)) ∙ e)
      where
        go : (b : Bool) → present w k o ≡ b → lt zero_f (cond b (distance w k (rank_at w k o)) zero_f) ≡ true → cond b (distance w k (rank_at w k o)) zero_f ≡ seven
        go true p q = even k h p
        go false p q = absurd (false≢true (sym no_length ∙ q))

    sheet-median : 0 < length (sheet_lens w E) → median_of (sheet_lens w E) ≡ seven
    unfolding sheet_lens
    sheet-median h = median-seven (listed (positive_edge w E) (λ k. (E k).len) w.count) (all_listed (λ (a : Float). a ≡ seven) (positive_edge w E) (λ k. (E k).len) w.count long-seven) h

    none-fails : (k : ℕ) → k < w.count → fails w E k ≡ false
    none-fails k h = fails-is w E k ∙ rw (lt-leb 5 (length (window_lens w E k)) (omega (arith, small-window E k h))) (go (positive_edge w E k) (leb 8 (length (sheet_lens w E))) refl refl)
      where
        go : (p q : Bool) → positive_edge w E k ≡ p → leb 8 (length (sheet_lens w E)) ≡ q → p && (q && overlong global_overlong_ratio (sheet_lens w E) (E k).len) ≡ false
        go false q e f = refl
        go true false e f = refl
        go true true e f = over-is global_overlong_ratio (sheet_lens w E) (E k).len ∙ rw (sheet-median (omega (arith, leb-true 8 (length (sheet_lens w E)) f)), long-seven k h e) not-long

    no_end : (m : ℕ) → edge_mark w o m ≡ false
    no_end m =
        end_is w E o m
        ∙ some-no (λ k. (eqb k m || eqb (rank_at w k o) m) && fails w E k) w.count (λ k h. rw (none-fails k h) (and-false (eqb k m || eqb (rank_at w k o) m)))

  pub no-edge-u : (m : ℕ) → edge_mark w next_u m ≡ false
  no-edge-u = no_end next_u even-next-u

  pub no-edge-v : (m : ℕ) → edge_mark w next_v m ≡ false
  no-edge-v = no_end next_v even-next-v
