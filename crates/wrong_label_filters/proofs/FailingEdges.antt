-- The verdict on an edge from counts, and from arrays that hold the edges. Assumes nothing.
use mathlib.Core.Path.{◌≡◌, refl, sym, ap, ◌∙◌}
use mathlib.Core.Bool.{Bool, true, false, cond, not, ◌&&◌, ◌||◌, false≢true}
use mathlib.Core.List.{List}
use Prim.Native.Nat.{ℕ, ◌+◌, ◌/◌, ◌≤◌, ◌<◌}
use Prim.{Dec, yes, no}
use native.Mathlib.Decide.{dec_lt}
use native.Mathlib.Omega.{arith}
use lib.Dec.{T, ltb, leb, eqb}
use borrow.Author.Tests.{leb-true, ltb-true, lt-ltb, le-ltb, ne_eqb}
use lib.ListN.{length, get_or}
use lib.Ieee.{Float, nan, lt, of_bits}
use lib.Ieee.Positive.{positive as positive-float}
use Rattle.folds.specs.Arith.{◌⊗◌, zero_f}
use Rattle.folds.specs.Below.{tally, sum_of, some}
use Rattle.folds.proofs.Below.{tally-more, sum_more, sum-ext, some-ext, some-no, and-under}
use Rattle.folds.specs.Lists.{listed}
use Rattle.folds.proofs.Lists.{listed-length, listed-ext}
use Rattle.folds.specs.Column.{column}
use Rattle.folds.proofs.Column.{column-at}
use Rattle.folds.specs.Marked.{Marked}
use Rattle.folds.proofs.Marked.{marked-as}
use Rattle.float.specs.Constants.{overlong_ratio, global_overlong_ratio}
use Rattle.median.specs.Median.{median_of}
use Rattle.median.proofs.Median.{over-median-of}
use Rattle.median.specs.Packed.{positives}
use Rattle.offsets.specs.declared.Offset.{Offset}
use Rattle.offsets.specs.Offsets.{own, is_near, place_of, offset_of}
use Rattle.offsets.proofs.Places.{offset_near}
use Rattle.view.specs.View.{View, max_points, rank_at, present}
use Rattle.edges.specs.Edges.{edge_at, stored_at}
use Rattle.edges.specs.declared.StoredEdge.{StoredEdge}
use Rattle.offsets.specs.declared.axis.Axis.{Axis}
use Rattle.offsets.specs.Axes.{forward}
use Rattle.wrong_label_filters.specs.Judged.{positive_edge, in_window, window_lens, sheet_lens, window_x, window_y, overlong, off_axis, fails, end_of_failing, edge_mark}
use Rattle.wrong_label_filters.specs.Windows.{edge_along, is_under, window_to, with_edge_at, positive_lens, sheet_limit_of, failing_ends}
use Rattle.wrong_label_filters.specs.declared.judged_edges.Window.{Window}
use Rattle.std.proofs.Math.Bool.{and-false}
use Rattle.std.proofs.lemmas.Bool.{and_parts}

cond-ext : (b : Bool) {x x' y y' : Bool} → (b ≡ true → x ≡ x') → y ≡ y' → cond b x y ≡ cond b x' y'
cond-ext true p q = p refl
cond-ext false p q = q

ratio-positive : T (positive-float overlong_ratio)
unfolding of_bits
ratio-positive = tt

pub over-is : (r : Float) (l : List Float) (x : Float) → overlong r l x ≡ lt (r ⊗ median_of l) x
unfolding overlong
over-is r l x = refl

module _ (w : View) (E : ℕ → StoredEdge) where
  sheet-is : sheet_lens w E ≡ positive_lens E w.count
  unfolding sheet_lens
  sheet-is = refl

  module _ (k : ℕ) where
    -- the edge at place i of the 25 round rank k
    abbrev at : ℕ → StoredEdge
    at i = E (rank_at w k (offset_of i))

    abbrev sum_x : ℕ → Float
    sum_x j = sum_of (in_window w E k) (λ i. (at i).ux) j

    abbrev sum_y : ℕ → Float
    sum_y j = sum_of (in_window w E k) (λ i. (at i).uy) j

    lens-are : window_lens w E k ≡ listed (in_window w E k) (λ i. (at i).len) 25
    unfolding window_lens
    lens-are = refl

    x-is : window_x w E k ≡ sum_x 25
    unfolding window_x
    x-is = refl

    y-is : window_y w E k ≡ sum_y 25
    unfolding window_y
    y-is = refl

    pub fails-is : fails w E k
        ≡ positive_edge w E k && cond (leb 5 (length (window_lens w E k)))
        (overlong overlong_ratio (window_lens w E k) (E k).len || off_axis (window_x w E k) (window_y w E k) (E k).ux (E k).uy)
        (leb 8 (length (sheet_lens w E)) && overlong global_overlong_ratio (sheet_lens w E) (E k).len)
    unfolding fails
    fails-is = refl

    -- ---- a window, edge by edge

    module _ (len : Float) where
      abbrev unders : ℕ → ℕ
      unders j = tally (λ i. in_window w E k i && is_under w E k len i) j

      window-is : (j : ℕ) → window_to w E k len j ≡ record { count = tally (in_window w E k) j; under = unders j; sx = sum_x j; sy = sum_y j }
      unfolding window_to
      window-is j = refl

      pub window-none : record { count = 0; under = 0; sx = zero_f; sy = zero_f } ≡ window_to w E k len 0
      unfolding window_to tally sum_of
      window-none = refl

      pub window_more : (j : ℕ) → window_to w E k len (j + 1) ≡ with_edge_at w E k len j (window_to w E k len j)
      unfolding window_to
      window_more j =
          rw (tally-more (in_window w E k) j, tally-more (λ i. in_window w E k i && is_under w E k len i) j, sum_more (in_window w E k) (λ i. (at i).ux) j, sum_more (in_window w E k) (λ i. (at i).uy) j)

    -- ---- the verdict, from its window

    in-positive : (i : ℕ) → in_window w E k i ≡ true → lt zero_f (at i).len ≡ true
    unfolding in_window
    in-positive i p =
        let o = offset_of i in
        let there = positive_edge w E (rank_at w k o) in
        (and_parts (present w k o) there (and_parts (not (eqb i (place_of own))) (present w k o && there) p).1).1

    local : leb 5 (tally (in_window w E k) 25) ≡ true → overlong overlong_ratio (window_lens w E k) (E k).len ≡ ltb (tally (in_window w E k) 25 / 2) (unders (E k).len 25)
    local h =
        over-is overlong_ratio (window_lens w E k) (E k).len
        ∙ ap (λ l. lt (overlong_ratio ⊗ median_of l) (E k).len) lens-are
        ∙ over-median-of overlong_ratio (E k).len ratio-positive (in_window w E k) (λ i. (at i).len) 25 (λ i l p. in-positive i p) (omega (arith, leb-true 5 (tally (in_window w E k) 25) h))

    -- v is the window of rank k's edge, which has the length len, and t the number of positive lengths on the sheet
    pub fails_by : (len : Float) (v : Window) (t : ℕ) → len ≡ (E k).len → v ≡ window_to w E k len 25 → t ≡ tally (positive_edge w E) w.count
        → fails w E k
        ≡ lt zero_f len && cond (leb 5 v.count) (ltb (v.count / 2) v.under || off_axis v.sx v.sy (E k).ux (E k).uy)
        (leb 8 t && lt (global_overlong_ratio ⊗ median_of (positive_lens E w.count)) len)
    fails_by len v t o e f =
        let a : length (window_lens w E k) ≡ tally (in_window w E k) 25 = ap length lens-are ∙ listed-length (in_window w E k) (λ i. (at i).len) 25 in
        let b : length (sheet_lens w E) ≡ tally (positive_edge w E) w.count = ap length sheet-is ∙ listed-length (positive_edge w E) (λ i. (E i).len) w.count in
        fails-is
        ∙ rw (e ∙ window-is len 25, o, f, a, b, x-is, y-is)
        (ap (λ r. positive_edge w E k && r)
        (cond-ext (leb 5 (tally (in_window w E k) 25))
        (λ h. ap (λ r. r || off_axis (sum_x 25) (sum_y 25) (E k).ux (E k).uy) (local h))
        (ap (λ r. leb 8 (tally (positive_edge w E) w.count) && r) (over-is global_overlong_ratio (sheet_lens w E) (E k).len ∙ ap (λ l. lt (global_overlong_ratio ⊗ median_of l) (E k).len) sheet-is))))

-- the verdict on rank k's edge along an axis, which is e, with the window v
pub verdict-is : (w : View) (axis : Axis) (k : ℕ) {total : ℕ} {e : StoredEdge} {v : Window} → total ≡ tally (λ i. lt zero_f (edge_along w axis i).len) w.count → e ≡ edge_along w axis k
    → v ≡ window_to w (edge_along w axis) k e.len 25 → fails w (edge_along w axis) k
    ≡ lt zero_f e.len && cond (leb 5 v.count) (ltb (v.count / 2) v.under || off_axis v.sx v.sy e.ux e.uy) (leb 8 total && lt (sheet_limit_of (edge_along w axis) w.count) e.len)
verdict-is w axis k {total} {e} {v} a p q =
    fails_by w (edge_along w axis) k e.len v total (ap (λ d. d.len) p) q a
    ∙ rw (← ap (λ d. d.ux) p, ← ap (λ d. d.uy) p) refl

-- the positive lengths, read from a column
pub column-lens : (E : ℕ → StoredEdge) (n : ℕ) (l : List Float) → l ≡ column max_points nan n (λ (k : ℕ). (E k).len) → positives l n ≡ positive_lens E n
unfolding positives
column-lens E n l e =
    let at : (k : ℕ) → k < n → get_or l k nan ≡ (E k).len = λ k h. rw e (column-at max_points nan n (λ (k : ℕ). (E k).len) k h) in
    listed-ext (λ k. lt zero_f (get_or l k nan)) (λ k. lt zero_f (E k).len) (λ k. get_or l k nan) (λ k. (E k).len) n (λ k h. rw (at k h)) (λ k h p. at k h)

-- ---- what a verdict depends on

-- Two edges whose windows hold the same edges at the same offsets: rank k among the edges E of the one sheet, rank l among F of the other.
pub record Alike (w v : View) (E F : ℕ → StoredEdge) (k l : ℕ) : Type 0 where
  pub own-edge : E k ≡ F l
  pub there : (o : Offset) → is_near o ≡ true → present w k o ≡ present v l o
  pub edges : (o : Offset) → is_near o ≡ true → present v l o ≡ true → E (rank_at w k o) ≡ F (rank_at v l o)

module _ (w v : View) (E F : ℕ → StoredEdge) (k l : ℕ) (a : Alike w v E F k l) where
  same-window : (j : ℕ) → j < 25 → in_window w E k j ≡ in_window v F l j
  unfolding in_window
  same-window j h =
      let o = offset_of j in
      let near = offset_near j h in
      ap (λ b. not (eqb j (place_of own)) && b) (rw (a.there o near) (and-under (present v l o) (λ p. rw (a.edges o near p))))

  within : (j : ℕ) → j < 25 → in_window v F l j ≡ true → E (rank_at w k (offset_of j)) ≡ F (rank_at v l (offset_of j))
  unfolding in_window
  within j h p =
      let o = offset_of j in
      let there = positive_edge v F (rank_at v l o) in
      a.edges o (offset_near j h) (and_parts (present v l o) there (and_parts (not (eqb j (place_of own))) (present v l o && there) p).1).0

  same-lens : window_lens w E k ≡ window_lens v F l
  same-lens =
      lens-are w E k
      ∙ listed-ext (in_window w E k) (in_window v F l) (λ i. (E (rank_at w k (offset_of i))).len) (λ i. (F (rank_at v l (offset_of i))).len) 25 same-window (λ i g p. ap (λ e. e.len) (within i g p))
      ∙ sym (lens-are v F l)

  same_sum : (part : StoredEdge → Float) → sum_of (in_window w E k) (λ i. part (E (rank_at w k (offset_of i)))) 25 ≡ sum_of (in_window v F l) (λ i. part (F (rank_at v l (offset_of i)))) 25
  same_sum part = sum-ext (in_window w E k) (in_window v F l) (λ i. part (E (rank_at w k (offset_of i)))) (λ i. part (F (rank_at v l (offset_of i)))) 25 same-window (λ i g p. ap part (within i g p))

  same-x : window_x w E k ≡ window_x v F l
  same-x = x-is w E k ∙ same_sum (λ e. e.ux) ∙ sym (x-is v F l)

  same-y : window_y w E k ≡ window_y v F l
  same-y = y-is w E k ∙ same_sum (λ e. e.uy) ∙ sym (y-is v F l)

  -- with the same lengths on the whole sheet the verdicts are the same
  pub same-verdict : sheet_lens w E ≡ sheet_lens v F → fails w E k ≡ fails v F l
  same-verdict b = fails-is w E k ∙ rw (same-lens, same-x, same-y, b, a.own-edge) (sym (fails-is v F l))

  -- An edge that is judged by its own window has the same verdict on every sheet on which its window holds the same edges.
  pub local-verdict : leb 5 (length (window_lens v F l)) ≡ true → fails w E k ≡ fails v F l
  local-verdict h = fails-is w E k ∙ rw (same-lens, same-x, same-y, h, a.own-edge) (sym (fails-is v F l ∙ rw h))

-- edges that agree below the count have the same verdicts
same-fails : (w : View) (E F : ℕ → StoredEdge) → ((k : ℕ) → k < w.count → E k ≡ F k) → (k : ℕ) → k < w.count → fails w E k ≡ fails w F k
same-fails w E F same k l =
    same-verdict w w E F k k
    (record { own-edge = same k l; there = λ o h. refl; edges = λ o h p. same (rank_at w k o) (ltb-true (rank_at w k o) w.count p) })
    (sheet-is w E ∙ listed-ext (positive_edge w E) (positive_edge w F) (λ i. (E i).len) (λ i. (F i).len) w.count (λ i g. rw (same i g)) (λ i g p. ap (λ e. e.len) (same i g)) ∙ sym (sheet-is w F))

-- ---- the marks of a direction

module _ (w : View) (o : Offset) where
  none : (k : ℕ) → present w k o ≡ false → positive_edge w (stored_at w o) k ≡ false
  unfolding edge_at lt of_bits
  none k h = rw h

  -- an edge that fails has two ends
  two-ends : (k : ℕ) → fails w (stored_at w o) k ≡ true → present w k o ≡ true
  two-ends k e = there (present w k o) refl
    where
      there : (b : Bool) → present w k o ≡ b → present w k o ≡ true
      there true p = p
      there false p = absurd (false≢true (sym (fails-is w (stored_at w o) k ∙ rw (none k p)) ∙ e))

  turn : (p f e : Bool) → (f ≡ true → p ≡ true) → p && (f && e) ≡ e && f
  turn p true true h = rw (h refl)
  turn p true false h = rw (h refl)
  turn true false true h = refl
  turn true false false h = refl
  turn false false true h = refl
  turn false false false h = refl

  ends_is : (m : ℕ) → end_of_failing w (stored_at w o) o m ≡ some (λ k. (eqb k m || eqb (rank_at w k o) m) && fails w (stored_at w o) k) w.count
  unfolding end_of_failing
  ends_is m = refl

  ends-are : (E : ℕ → StoredEdge) → ((k : ℕ) → k < w.count → E k ≡ stored_at w o k) → (m : ℕ) → some (λ k. failing_ends w o (fails w E) k m) w.count ≡ end_of_failing w (stored_at w o) o m
  ends-are E same m =
      some-ext (λ k. failing_ends w o (fails w E) k m) (λ k. (eqb k m || eqb (rank_at w k o) m) && fails w (stored_at w o) k) w.count
      (λ k l. rw (same-fails w E (stored_at w o) same k l) (turn (present w k o) (fails w (stored_at w o) k) (eqb k m || eqb (rank_at w k o) m) (two-ends k)))
      ∙ sym (ends_is m)

  -- nothing from the count on is marked
  ends-past : (t : ℕ → Bool) (m : ℕ) → w.count ≤ m → some (λ k. failing_ends w o t k m) w.count ≡ false
  ends-past t m g = some-no (λ k. failing_ends w o t k m) w.count (λ k l. go k l (dec_lt (rank_at w k o) w.count))
    where
      go : (k : ℕ) → k < w.count → Dec (rank_at w k o < w.count) → failing_ends w o t k m ≡ false
      go k l (yes y) = rw (ne_eqb k m (λ q. omega (arith, l, q)), ne_eqb (rank_at w k o) m (λ q. omega (arith, y, q)), and-false (t k)) (and-false (present w k o))
      go k l (no y) = rw (le-ltb (rank_at w k o) w.count (omega (arith, y)))

-- ---- the marks that the edges along an axis give

module _ (w : View) (axis : Axis) where
  abbrev pub hits : ℕ → ℕ → Bool
  hits k m = failing_ends w (forward axis) (fails w (edge_along w axis)) k m

  pub marks-are : {a b : List ℕ} → Marked (λ (m : ℕ). some (λ (k : ℕ). hits k m) w.count) a b → Marked (λ (m : ℕ). ltb m w.count && edge_mark w (forward axis) m) a b
  marks-are r = marked-as (λ (m : ℕ). some (λ (k : ℕ). hits k m) w.count) (λ (m : ℕ). ltb m w.count && edge_mark w (forward axis) m) (λ m l. go m (dec_lt m w.count)) r
    where
      go : (m : ℕ) → Dec (m < w.count) → some (λ (k : ℕ). hits k m) w.count ≡ ltb m w.count && edge_mark w (forward axis) m
      go m (yes l) = rw (lt-ltb m w.count l) (ends-are w (forward axis) (edge_along w axis) (λ k g. refl) m)
      go m (no l) = rw (le-ltb m w.count (omega (arith, l))) (ends-past w (forward axis) (fails w (edge_along w axis)) m (omega (arith, l)))
