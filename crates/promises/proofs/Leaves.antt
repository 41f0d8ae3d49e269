-- Weak ends, of every accepted sheet: what is left, what was removed, and the rounds. Assumes nothing.
use Rattle.std.specs.List.{list_any}
use mathlib.Core.Path.{◌≡◌, refl, sym, ap, ◌∙◌}
use mathlib.Core.Bool.{Bool, true, false, not, ◌&&◌, true≢false}
use mathlib.Core.List.{List, [], ◌∷◌}
use Prim.{Dec, yes, no}
use Prim.Native.Nat.{ℕ, ◌+◌, ◌*◌, ◌≤◌, ◌<◌}
use native.Mathlib.Decide.{dec_lt}
use native.Mathlib.Omega.{arith}
use lib.Dec.{eqb, ltb}
use lib.Ieee.{nan}
use lib.ListN.{length, get_or, replicate}
use borrow.Author.Tests.{eqb-true, eq-eqb, ltb-true}
use Rattle.folds.specs.Among.{pair_in}
use Rattle.folds.proofs.Among.{pair-order, pair-yes}
use Rattle.folds.specs.Arith.{f32}
use Rattle.folds.proofs.Below.{and-under, some_at, some-yes, tally-ext}
use Rattle.folds.specs.Lists.{list_of}
use Rattle.folds.proofs.Lists.{is-list}
use Rattle.folds.proofs.Column.{column-at, replicate-at}
use Rattle.offsets.specs.declared.Offset.{Offset}
use Rattle.offsets.specs.Offsets.{own, places}
use Rattle.offsets.proofs.Places.{places-at}
use Rattle.view.specs.View.{View, max_points, rank_at, alike, index_has}
use Rattle.cells.specs.Points.{Point, nowhere, strengths_of}
use Rattle.cells.specs.Cell.{cell_of, cells_of, coincide, offset_by}
use Rattle.cells.proofs.Edges.{coincide-same, coincide-true}
use Rattle.sort.proofs.Sorted.{sort-perm}
use Rattle.grid.specs.InOrder.{CellOrder}
use Rattle.grid.specs.Views.{view_of}
use Rattle.grid.proofs.Alike.{one_index}
use Rattle.grid.proofs.InOrder.{near-means, near-found}
use Rattle.sheet_file.specs.declared.Fraction.{Fraction}
use Rattle.sheet_file.specs.declared.Fraction.TheVariants.{Missing, Outside, Given}
use Rattle.sheet_file.specs.declared.Settings.{Settings}
use Rattle.points.specs.Refusals.{point_refusals, two_strengths, cell_order, comes_before}
use Rattle.refusals.proofs.Laws.{holds, none-applies-in}
use Rattle.ruling.specs.Ruling.{accepted}
use Rattle.ruling.specs.Accepted.{AcceptedSheet}
use Rattle.ruling.proofs.Accepted.{listed, sound-sheet}
use Rattle.ruling.proofs.Given.{for-accepted}
use Rattle.marks.specs.Filters.{validate, orientation, wrong, leaf, component}
use Rattle.marks.specs.Marks.{is_set}
use Rattle.marks.specs.Byte.{has_mark}
use Rattle.marks.proofs.Byte.{marked-by}
use Rattle.marks.proofs.Guards.{index-marks, set_is}
use Rattle.validate.specs.Validate.{validate_mark}
use Rattle.orientation.specs.Orientation.{orientation_mark}
use Rattle.patches.specs.Patches.{survives, patch_labels}
use Rattle.patches.proofs.Labelling.{label-lives}
use Rattle.patches.proofs.Lattices.{square-near}
use Rattle.components.specs.Components.{winner_of, in_other_patch, others_by, others_of, component_mark, filter_of}
use Rattle.strengths.proofs.Laws.{weak-alike}
use Rattle.peel.specs.Theorems.{Placed, left, left_sides}
use Rattle.peel.specs.declared.Peeled.{Peeled}
use Rattle.peel.proofs.Theorems.{marks-shared, left-sides, removed-own, removed-live, none-rounds, rounds-none}
use Rattle.drop_set.specs.Filters.{sides_of, by_points, wrong_mark, component_marked, view_filters, weak_by, no_leaves, peel_of, patched_of, point_marks, measured_of, judged_of}
use Rattle.drop_set.proofs.Laws.{unpeeled}
use Rattle.judging.specs.Judging.{judged_for}
use Rattle.judging.proofs.Laws.{few-rounds}
use Rattle.promises.specs.Words.{marks_in, rounds_of, survivor}
use Rattle.promises.specs.Leaves.{weak_rank, survivor_at, live_neighbours, WeakEndsPromise, NoLeaves, UnweighedPromise}
use Rattle.promises.proofs.Bits.{validate-bit, orientation-bit, wrong-bit, leaf-bit, component-bit, left-zero, dropped, survivor-is}
use Rattle.promises.proofs.Cosines.{place-below}
use Rattle.promises.proofs.Shared.{points-shared}
use Rattle.std.proofs.lemmas.Bool.{and_from, and_parts, false_from_ne_true, not-false}
use Rattle.std.specs.Cmp.{both_ways}
use Rattle.ruling.proofs.Order.{strength-either-way}

-- points with one index have one strength
abbrev OneStrength : List Point → Type 0
OneStrength ps = (j k : ℕ) → j < length ps → k < length ps → (get_or ps j nowhere).index ≡ (get_or ps k nowhere).index → (get_or ps j nowhere).strength ≡ (get_or ps k nowhere).strength

regrouped : (b a z : Bool) → b && (not a && z) ≡ (b && z) && not a
regrouped true true true = refl
regrouped true true false = refl
regrouped true false true = refl
regrouped true false false = refl
regrouped false a z = refl

-- the component filter marks an index only where one of its points survives
component-survives : (w : View) (sides drops : List ℕ) (k : ℕ) → k < w.count → is_set (filter_of w sides drops).marks k ≡ true
    → (j : ℕ) × (j < w.count) × (survives w.count drops j ≡ true) × (w.by_idx j ≡ w.by_idx k)
unfolding filter_of others_of others_by
component-survives w sides drops k h e =
    let n = w.count in
    let labels : List ℕ = patch_labels w sides drops in
    let other : ℕ → Bool = in_other_patch n labels (winner_of n labels) in
    let v = some_at (λ (j : ℕ). other j && alike w j k) n (sym (set_is max_points n (index_has w other) (component_mark w sides drops) (index-marks w other (others_of n labels) refl) k h) ∙ e) in
    let j = v.0 in
    let below = ltb-true (get_or labels j 0) n (and_parts (ltb (get_or labels j 0) n) (not (eqb (get_or labels j 0) (winner_of n labels))) (and_parts (other j) (alike w j k) v.2).0).0 in
    (j, v.1, label-lives n w.near sides drops j v.1 below, eqb-true (w.by_idx j) (w.by_idx k) (and_parts (other j) (alike w j k) v.2).1)

module _ (s : Settings) (ps : List Point) where
  abbrev view : View
  view = view_of ps

  -- the bytes before the weak-end filter, its test of weakness, and what it finds
  abbrev drops : List ℕ
  drops = point_marks s view (cells_of ps)

  abbrev weak : List ℕ
  weak = weak_by s.score_frac view.count (strengths_of ps)

  abbrev found : Peeled
  found = peel_of s view (strengths_of ps) drops

  marked-is : (k : ℕ) → k < length ps → has_mark leaf (marks_in s ps k) ≡ is_set found.marks k
  unfolding judged_for view_of
  marked-is k h = leaf-bit s view (cells_of ps) (strengths_of ps) k h

  pub rounds-are : rounds_of s ps ≡ found.rounds
  unfolding judged_for judged_of measured_of patched_of
  rounds-are = refl

  -- a survivor is a point that neither an earlier filter nor this one has marked
  survivor-left : (k : ℕ) → survivor s ps k ≡ left view drops found.marks k
  unfolding view_of
  survivor-left k =
      survivor-is s ps k
      ∙ and-under (ltb k (length ps)) (λ e. left-zero s view (cells_of ps) (strengths_of ps) k (ltb-true k (length ps) e))
      ∙ regrouped (ltb k (length ps)) (is_set found.marks k) (eqb (get_or drops k 0) 0)

  module _ (o : CellOrder ps) where
    pub placed : Placed view
    unfolding view_of
    placed k h = place-below ps o k h

    below : (k : ℕ) → left view drops found.marks k ≡ true → k < length ps
    unfolding view_of
    below k e =
        let alive = ltb k (length ps) && eqb (get_or drops k 0) 0 in
        ltb-true k (length ps) (and_parts (ltb k (length ps)) (eqb (get_or drops k 0) 0) (and_parts alive (not (is_set found.marks k)) e).0).0

    -- ---- neighbours

    module _ (k : ℕ) (hk : k < length ps) (i : ℕ) (hi : i < length (sides_of s)) where
      abbrev side : Offset
      side = get_or (sides_of s) i own

      abbrev beside : ℕ
      beside = view.near (25 * k + get_or (places (sides_of s)) i 0)

      at_side : beside ≡ rank_at view k side
      at_side = ap (λ (m : ℕ). view.near (25 * k + m)) (places-at (sides_of s) i hi)

      side-is : survivor_at s ps k i ≡ left view drops found.marks beside
      side-is = both_ways (survivor_at s ps k i) (left view drops found.marks beside) to from
        where
          test : ℕ → Bool
          test j = survivor s ps j && coincide (cell_of (get_or ps j nowhere)) (offset_by side (cell_of (get_or ps k nowhere)))

          to : survivor_at s ps k i ≡ true → left view drops found.marks beside ≡ true
          to e =
              let v = some_at test (length ps) e in
              let j = v.0 in
              let c = coincide (cell_of (get_or ps j nowhere)) (offset_by side (cell_of (get_or ps k nowhere))) in
              let there = near-found ps o k side j hk (square-near i hi) v.1 (coincide-true (cell_of (get_or ps j nowhere)) (offset_by side (cell_of (get_or ps k nowhere))) (and_parts (survivor s ps j) c v.2).1) in
              ap (left view drops found.marks) (at_side ∙ there) ∙ sym (survivor-left j) ∙ (and_parts (survivor s ps j) c v.2).0

          from : left view drops found.marks beside ≡ true → survivor_at s ps k i ≡ true
          from e =
              let l = below beside e in
              some-yes test (length ps) beside l
              (and_from (survivor s ps beside) (coincide (cell_of (get_or ps beside nowhere)) (offset_by side (cell_of (get_or ps k nowhere)))) (survivor-left beside ∙ e)
              (coincide-same (cell_of (get_or ps beside nowhere)) (offset_by side (cell_of (get_or ps k nowhere))) (near-means ps o k side beside hk (square-near i hi) l (sym at_side))))

    neighbours-are : (k : ℕ) → k < length ps → live_neighbours s ps k ≡ left_sides view (places (sides_of s)) drops found.marks k
    neighbours-are k h = tally-ext (survivor_at s ps k) (λ (i : ℕ). left view drops found.marks (view.near (25 * k + get_or (places (sides_of s)) i 0))) (length (sides_of s)) (side-is k h)

    -- ---- what is left, and what was removed

    two-left : (k : ℕ) → survivor s ps k ≡ true → weak_rank s ps k ≡ true → 2 ≤ live_neighbours s ps k
    unfolding view_of
    two-left k e f =
        let l = sym (survivor-left k) ∙ e in
        rw (neighbours-are k (below k l)) (left-sides view (places (sides_of s)) drops weak placed k l f)

    module _ (one : OneStrength ps) where
      strengths-alike : (j k : ℕ) → j < length ps → k < length ps → view.by_idx j ≡ view.by_idx k → get_or (strengths_of ps) j nan ≡ get_or (strengths_of ps) k nan
      unfolding strengths_of
      strengths-alike j k a b e =
          let strength : ℕ → _ = λ k. f32 (get_or ps k nowhere).strength in
          column-at max_points nan (length ps) strength j a ∙ ap f32 (one j k a b (one_index ps j k a b e)) ∙ sym (column-at max_points nan (length ps) strength k b)

      weak-shared : (j k : ℕ) → j < length ps → k < length ps → view.by_idx j ≡ view.by_idx k → weak_rank s ps j ≡ weak_rank s ps k
      weak-shared j k a b e = go s.score_frac
        where
          none : (m : ℕ) → is_set (replicate max_points 0) m ≡ false
          none m = ap (λ (x : ℕ). eqb x 1) (replicate-at max_points 0 m)

          go : (x : Fraction) → is_set (weak_by x (length ps) (strengths_of ps)) j ≡ is_set (weak_by x (length ps) (strengths_of ps)) k
          go Missing = none j ∙ sym (none k)
          go Outside = none j ∙ sym (none k)
          go (Given x) = ap (λ (m : ℕ). eqb m 1) (weak-alike (length ps) (strengths_of ps) x j k a b (strengths-alike j k a b e))

      was-weak : (k : ℕ) → k < length ps → has_mark leaf (marks_in s ps k) ≡ true → weak_rank s ps k ≡ true
      unfolding view_of
      was-weak k h e = removed-own view (places (sides_of s)) drops weak placed weak-shared k h (sym (marked-is k h) ∙ e)

    was-live : (k : ℕ) → k < length ps → has_mark leaf (marks_in s ps k) ≡ true → get_or drops k 0 ≡ 0
    unfolding view_of
    was-live k h e =
        removed-live view (places (sides_of s)) drops weak placed (λ i j a b q. points-shared s view (cells_of ps) (strengths_of ps) i j a b q) k h (sym (marked-is k h) ∙ e)

    -- the marks of the earlier filters are those of the byte before
    module _ (k : ℕ) (h : k < length ps) (e : has_mark leaf (marks_in s ps k) ≡ true) where
      before : (f : ℕ) → has_mark f 0 ≡ false → has_mark f (get_or drops k 0) ≡ false
      before f z = ap (has_mark f) (was-live k h e) ∙ z

      no-validate : has_mark validate (marks_in s ps k) ≡ false
      unfolding judged_for view_of point_marks
      no-validate =
          validate-bit s view (cells_of ps) (strengths_of ps) k h
          ∙ sym (marked-by view.count k h [] (view_filters s view) (by_points validate (validate_mark s view (cells_of ps))) refl refl refl refl) ∙ before validate refl

      no-orientation : has_mark orientation (marks_in s ps k) ≡ false
      unfolding judged_for view_of point_marks
      no-orientation =
          orientation-bit s view (cells_of ps) (strengths_of ps) k h
          ∙ sym (marked-by view.count k h (by_points validate (validate_mark s view (cells_of ps)) ∷ []) (by_points wrong (wrong_mark s view) ∷ []) (by_points orientation (orientation_mark view)) refl refl refl refl)
          ∙ before orientation refl

      no-wrong : has_mark wrong (marks_in s ps k) ≡ false
      unfolding judged_for view_of point_marks
      no-wrong =
          wrong-bit s view (cells_of ps) (strengths_of ps) k h
          ∙ sym (marked-by view.count k h (by_points validate (validate_mark s view (cells_of ps)) ∷ by_points orientation (orientation_mark view) ∷ []) [] (by_points wrong (wrong_mark s view)) refl refl refl refl)
          ∙ before wrong refl

      -- a removed index survives at none of its cells
      no-component : has_mark component (marks_in s ps k) ≡ false
      unfolding judged_for view_of
      no-component =
          component-bit s view (cells_of ps) (strengths_of ps) k h
          ∙ false_from_ne_true (component_marked s view (dropped s ps) k)
          (λ t.
          let v = component-survives view (places (sides_of s)) (dropped s ps) k h (and_parts s.apply_largest_component (is_set (filter_of view (places (sides_of s)) (dropped s ps)).marks k) t).1 in
          let j = v.0 in
          let stays = (and_parts (survives (length ps) drops j) (not (is_set found.marks j)) (sym (survivor-left j) ∙ survivor-is s ps j ∙ v.2)).1 in
          true≢false (sym stays ∙ ap not (marks-shared view (places (sides_of s)) drops weak j k v.1 h v.3 ∙ sym (marked-is k h) ∙ e)))

    -- ---- the rounds

    unremoved : ((k : ℕ) → k < length ps → has_mark leaf (marks_in s ps k) ≡ false) → rounds_of s ps ≡ 0
    unfolding view_of
    unremoved f = rounds-are ∙ none-rounds view (places (sides_of s)) drops weak placed (λ k h. sym (marked-is k h) ∙ f k h)

    unrounded : rounds_of s ps ≡ 0 → (k : ℕ) → k < length ps → has_mark leaf (marks_in s ps k) ≡ false
    unfolding view_of
    unrounded e k h = marked-is k h ∙ rounds-none view (places (sides_of s)) drops weak placed (sym rounds-are ∙ e) k h

-- ---- of an accepted sheet

-- "one index with different strength bits" is refused
one-strength : (s : Settings) (ps : List Point) → AcceptedSheet s ps → OneStrength ps
unfolding point_refusals
one-strength s ps a j k below-j below-k q = go (dec_lt j k) (dec_lt k j)
  where
    at : ℕ → Point
    at i = get_or ps i nowhere

    passed : (list_any holds (point_refusals s.score_frac a.points) ≡ false) × (accepted s (cell_order a.points) ≡ accepted s ps)
    passed = for-accepted s s a.points ps (listed a.room s s a.points ps a.ruled-so).ruled-so

    sorted : ps ≡ cell_order a.points
    sorted = cc passed.1

    none : pair_in two_strengths (list_of (length ps) at) ≡ false
    none =
        ap (pair_in two_strengths) (sym (is-list nowhere (length ps) at ps refl (λ k h. refl)) ∙ sorted)
        ∙ sym (pair-order two_strengths strength-either-way (sort-perm comes_before a.points)) ∙ none-applies-in (point_refusals s.score_frac a.points) passed.0 14

    differ : (i m : ℕ) → i < m → m < length ps → (at i).index ≡ (at m).index → (at i).strength ≡ (at m).strength
    differ i m l h q =
        eqb-true (at i).strength (at m).strength
        (not-false (eqb (at i).strength (at m).strength)
        (false_from_ne_true (not (eqb (at i).strength (at m).strength))
        (λ t. true≢false (sym (pair-yes at (length ps) two_strengths i m l h (and_from (eqb (at i).index (at m).index) (not (eqb (at i).strength (at m).strength)) (eq-eqb (at i).index (at m).index q) t)) ∙ none))))

    go : Dec (j < k) → Dec (k < j) → (at j).strength ≡ (at k).strength
    go (yes l) d = differ j k l below-k q
    go (no l) (yes m) = sym (differ k j m below-j (sym q))
    go (no l) (no m) = let i : j ≡ k = omega (arith, l, m) in ap (λ (i : ℕ). (at i).strength) i

pub weak-ends : WeakEndsPromise
weak-ends s ps a =
    let o = (sound-sheet s ps a).order in
    record {
      left-two = two-left s ps o;
      removed-weak = was-weak s ps o (one-strength s ps a);
      not-validate = no-validate s ps o;
      not-orientation = no-orientation s ps o;
      not-wrong = no-wrong s ps o;
      not-component = no-component s ps o;
      no-rounds = unremoved s ps o;
      none-removed = unrounded s ps o;
      few-rounds = few-rounds s ps;
    }

-- without a fraction no point is weak
no-leaves : (s : Settings) (ps : List Point) → s.score_frac ≡ Missing → length ps ≤ max_points → NoLeaves s ps
unfolding view_of
no-leaves s ps x few =
    let z : no_leaves ≡ found s ps = unpeeled s (view_of ps) (strengths_of ps) (drops s ps) (rw x) few in
    record {
      marks = λ k h. marked-is s ps k h ∙ ap (λ (p : Peeled). is_set p.marks k) (sym z) ∙ ap (λ (m : ℕ). eqb m 1) (replicate-at max_points 0 k);
      rounds = rounds-are s ps ∙ ap (λ (p : Peeled). p.rounds) (sym z);
    }

pub unweighed : UnweighedPromise
unweighed s ps a x = no-leaves s ps x (sound-sheet s ps a).order.few
