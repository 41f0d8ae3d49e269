-- What the arrays of the two steps are together. Assumes nothing.
use Rattle.std.specs.Prelude.{Option}
use mathlib.Core.Path.{◌≡◌, refl, sym, ap, ◌∙◌}
use mathlib.Core.Bool.{Bool, true, false, cond, ◌&&◌}
use mathlib.Core.List.{List, [], ◌∷◌}
use Prim.Native.Nat.{ℕ, ◌≤◌, ◌<◌}
use lib.Dec.{eqb}
use lib.ListN.{get_or, replicate}
use lib.Ieee.{Float}
use native.Mathlib.Omega.{arith}
use Rattle.folds.specs.Below.{tally}
use Rattle.folds.proofs.Below.{tally-le, first-le}
use Rattle.folds.specs.Column.{column}
use Rattle.folds.proofs.Column.{filled, replicate-at}
use Rattle.folds.specs.Marked.{bit}
use Rattle.offsets.specs.Offsets.{places}
use Rattle.view.specs.View.{View, max_points}
use Rattle.cells.specs.Cell.{Cell}
use Rattle.sheet_file.specs.declared.Fraction.TheVariants.{Given}
use Rattle.sheet_file.specs.declared.Settings.{Settings}
use Rattle.marks.specs.Filters.{validate, orientation, wrong, leaf, component}
use Rattle.marks.specs.Marks.{is_set}
use Rattle.marks.specs.Byte.{Marking, marked_by, marked_by_all}
use Rattle.marks.specs.Tally.{counts_of}
use Rattle.marks.proofs.Guards.{set_is}
use Rattle.marks.proofs.Byte.{by-same, Agree, all_same}
use Rattle.local_h.specs.Residual.{Distance}
use Rattle.residuals.specs.ByIndex.{residuals_of}
use Rattle.edge_shape.specs.Figures.{no_figures}
use Rattle.edge_shape.specs.declared.Figures.{Figures}
use Rattle.validate.specs.Validate.{gate_figures, figures_of, validate_mark, validate_marks}
use Rattle.validate.specs.Parts.{validated_of}
use Rattle.orientation.specs.Orientation.{orientation_mark, orientation_of}
use Rattle.wrong_label_filters.specs.WrongLabel.{wrong_label_mark, wrong_label_of}
use Rattle.strengths.specs.Weak.{weak_of}
use Rattle.peel.specs.Peel.{rounds_in, peeled_in, peeled_of}
use Rattle.peel.specs.declared.Peeled.{Peeled}
use Rattle.peel.proofs.Theorems.{none-weak}
use Rattle.components.specs.Components.{filter_of, patch_count}
use Rattle.patches.specs.Patches.{patch_labels}
use Rattle.components.specs.declared.ComponentFilter.{ComponentFilter}
use Rattle.judged.specs.declared.Measured.{Measured}
use Rattle.offsets.specs.declared.Offset.{Offset}
use Rattle.judged.specs.Judged.{Judged, judged_from}
use Rattle.drop_set.specs.declared.DropSet.{DropSet}
use Rattle.drop_set.specs.Filters.{sides_of, by_points, wrong_mark, point_filters, weak_by, no_leaves, peel_of, component_marked, peeled_marks, components_in, patched_of, point_marks, measured_of, judged_of}
use Rattle.drop_set.specs.Given.{Joined}

-- ---- the first step

module _ (s : Settings) (w : View) where
  -- the wrong-label marks, with their switch
  abbrev wrong_marks : List ℕ
  wrong_marks = column max_points 0 w.count (λ (k : ℕ). bit (wrong_mark s w k))

  pub wrong-on : {l : List ℕ} → s.apply_wrong_label_drops ≡ true → l ≡ wrong_label_of w s.cell_size → l ≡ wrong_marks
  unfolding wrong_label_of
  wrong-on on e = e ∙ sym (ap (λ (b : Bool). column max_points 0 w.count (λ (k : ℕ). bit (b && wrong_label_mark w s.cell_size k))) on)

  pub wrong-off : s.apply_wrong_label_drops ≡ false → w.count ≤ max_points → replicate max_points 0 ≡ wrong_marks
  wrong-off off h =
      filled w.count h (record { long = refl; done = λ k l. replicate-at max_points 0 k; left = λ k l. refl })
      ∙ sym (ap (λ (b : Bool). column max_points 0 w.count (λ (k : ℕ). bit (b && wrong_label_mark w s.cell_size k))) off)

  -- the filters by the arrays that hold their marks
  abbrev by_arrays : List ℕ → List ℕ → List ℕ → List Marking
  by_arrays v o r = by_points validate (is_set v) ∷ by_points orientation (is_set o) ∷ by_points wrong (is_set r) ∷ []

  -- the bytes of their marks
  pub points-are : (cell : ℕ → Cell) {v o r m : List ℕ} → v ≡ validate_marks s w cell → o ≡ orientation_of w → r ≡ wrong_marks → m ≡ marked_by_all w.count (by_arrays v o r) [] → m ≡ point_marks s w cell
  unfolding point_marks validate_marks orientation_of Agree
  points-are cell {v} {o} {r} ev eo er em =
      let n = w.count in
      em
      ∙ all_same n (by_arrays v o r) (point_filters s w cell) []
      ((refl, λ m. set_is max_points n (validate_mark s w cell) v ev), ((refl, λ m. set_is max_points n (orientation_mark w) o eo), ((refl, λ m. set_is max_points n (wrong_mark s w) r er), tt)))

  -- the column has the edge reasons
  pub reasons-read : {figures : List Figures} → figures ≡ gate_figures s.edge_shape w → (k : ℕ) → k < w.count → (get_or figures k no_figures).reason ≡ (get_or (figures_of s w) k no_figures).reason
  unfolding figures_of
  reasons-read e k l = ap (λ (f : List Figures). (get_or f k no_figures).reason) e

  pub marks-of : (cell : ℕ → Cell) {v : Measured} → v ≡ validated_of s w cell → v.marks ≡ validate_marks s w cell
  unfolding validated_of
  marks-of cell e = ap (λ (x : Measured). x.marks) e

  -- as one step
  measured_by : List ℕ → Measured → Measured
  measured_by l x = record { marks = l; boundary = x.boundary }

  by_parts : (cell : ℕ → Cell) → measured_by (point_marks s w cell) (validated_of s w cell) ≡ measured_of s w cell
  unfolding measured_of validated_of measured_by
  by_parts cell = refl

  pub measured-is : (cell : ℕ → Cell) {v : Measured} {m : List ℕ} → v ≡ validated_of s w cell → m ≡ point_marks s w cell
      → ◌≡◌ {A = Measured} (record { marks = m; boundary = v.boundary }) (measured_of s w cell)
  unfolding measured_by
  measured-is cell {v} {m} e f = ap (measured_by m) e ∙ ap (λ (l : List ℕ). measured_by l (validated_of s w cell)) f ∙ by_parts cell

  pub figures-are : {figures : List Figures} → figures ≡ gate_figures s.edge_shape w → figures ≡ figures_of s w
  unfolding figures_of
  figures-are e = e

  -- ---- the second step

  module _ (marks : List ℕ) where
    pub joined-on : {sides : List Offset} {r : ComponentFilter} → s.apply_largest_component ≡ true → sides ≡ sides_of s → r ≡ filter_of w (places sides) marks → Joined s w marks r
    unfolding components_in
    joined-on {sides} {r} on es er =
        let e : r ≡ filter_of w (places (sides_of s)) marks = er ∙ ap (λ (l : List Offset). filter_of w (places l) marks) es in
        record {
          marked = λ k h. ap (λ (f : ComponentFilter). is_set f.marks k) e ∙ sym (ap (λ (b : Bool). b && is_set (filter_of w (places (sides_of s)) marks).marks k) on);
          counted = ap (λ (f : ComponentFilter). f.components_seen) e ∙ sym (ap (λ (b : Bool). cond b (filter_of w (places (sides_of s)) marks).components_seen 0) on);
        }

    pub joined-off : s.apply_largest_component ≡ false → Joined s w marks (record { marks = replicate max_points 0; components_seen = 0 })
    unfolding components_in
    joined-off off = record {
      marked = λ k h. ap (λ (x : ℕ). eqb x 1) (replicate-at max_points 0 k) ∙ sym (ap (λ (b : Bool). b && is_set (filter_of w (places (sides_of s)) marks).marks k) off);
      counted = sym (ap (λ (b : Bool). cond b (filter_of w (places (sides_of s)) marks).components_seen 0) off);
    }

  -- no mark where none is weak
  pub unpeeled : (strength : List Float) (marks : List ℕ) → weak_by s.score_frac w.count strength ≡ replicate max_points 0 → w.count ≤ max_points
      → no_leaves ≡ peel_of s w strength marks
  unpeeled strength marks e h = rw e (sym (none-weak w (places (sides_of s)) marks (replicate max_points 0) h (λ k l. ap (λ (m : ℕ). eqb m 1) (replicate-at max_points 0 k))))

  pub peeled-by : (strength : List Float) (marks : List ℕ) {fraction : Float} {sides : List Offset} {weak : List ℕ} {r : Peeled} → s.score_frac ≡ Given fraction → sides ≡ sides_of s → weak ≡ weak_of w.count strength fraction
      → r ≡ peeled_of w (places sides) marks weak → r ≡ peel_of s w strength marks
  peeled-by strength marks f es ew er = rw f (er ∙ rw (es, ew))

  -- the bytes that the component filter is given
  left_is : (strength : List Float) (marks : List ℕ) → peeled_marks s w strength marks ≡ marked_by w.count leaf (is_set (peel_of s w strength marks).marks) marks
  unfolding peeled_marks
  left_is strength marks = refl

  -- what is made of them
  patched_by : List ℕ → ℕ → DropSet
  patched_by left rounds =
      let all = marked_by w.count component (component_marked s w left) left in
      record { marks = all; components = components_in s w left; rounds = rounds; tally = counts_of w all }

  patched-parts : (strength : List Float) (marks : List ℕ) → patched_by (peeled_marks s w strength marks) (peel_of s w strength marks).rounds ≡ patched_of s w strength marks
  unfolding patched_of patched_by
  patched-parts strength marks = refl

  pub patched-is : (strength : List Float) (marks : List ℕ) {p : Peeled} {l m t : List ℕ} {f : ComponentFilter} → p ≡ peel_of s w strength marks → l ≡ marked_by w.count leaf (is_set p.marks) marks
      → Joined s w l f → m ≡ marked_by w.count component (is_set f.marks) l → t ≡ counts_of w m
      → ◌≡◌ {A = DropSet} (record { marks = m; components = f.components_seen; rounds = p.rounds; tally = t }) (patched_of s w strength marks)
  unfolding patched_by
  patched-is strength marks {p} {l} {m} {t} {f} a b j e h =
      let left : l ≡ peeled_marks s w strength marks = b ∙ ap (λ (x : Peeled). marked_by w.count leaf (is_set x.marks) marks) a ∙ sym (left_is strength marks) in
      let all : m ≡ marked_by w.count component (component_marked s w l) l = e ∙ by-same w.count component (is_set f.marks) (component_marked s w l) l j.marked in
      rw (h, all, j.counted)
      (ap (λ (x : List ℕ). patched_by x p.rounds) left ∙ ap (λ (x : Peeled). patched_by (peeled_marks s w strength marks) x.rounds) a ∙ patched-parts strength marks)

  -- ---- both

  judged_by : Measured → List (Option Distance) → List Figures → DropSet → Judged
  judged_by m r f d = record { marks = d.marks; components = d.components; rounds = d.rounds; tally = d.tally; residuals = r; figures = f; boundary = m.boundary }

  both-parts : (cell : ℕ → Cell) (strength : List Float) → judged_by (measured_of s w cell) (residuals_of w cell) (figures_of s w) (patched_of s w strength (measured_of s w cell).marks) ≡ judged_of s w cell strength
  unfolding judged_of judged_by
  both-parts cell strength = refl

  pub judged-is : (cell : ℕ → Cell) (strength : List Float) (figures : List Figures) (m : Measured) {r : List (Option Distance)} {d : DropSet} → m ≡ measured_of s w cell → r ≡ residuals_of w cell → figures ≡ figures_of s w
      → d ≡ patched_of s w strength m.marks
      → judged_from (record { marks = d.marks; components = d.components; rounds = d.rounds; tally = d.tally; residuals = r; boundary = m.boundary }) figures ≡ judged_of s w cell strength
  unfolding judged_by judged_from
  judged-is cell strength figures m {r} e h f g =
      ap (judged_by m r figures) g
      ∙ ap (λ (x : List Figures). judged_by m r x (patched_of s w strength m.marks)) f
      ∙ ap (λ (x : List (Option Distance)). judged_by m x (figures_of s w) (patched_of s w strength m.marks)) h
      ∙ ap (λ (x : Measured). judged_by x (residuals_of w cell) (figures_of s w) (patched_of s w strength x.marks)) e
      ∙ both-parts cell strength

-- there are at most as many patches as points
pub components-few : (s : Settings) (w : View) (marks : List ℕ) → components_in s w marks ≤ w.count
unfolding components_in filter_of patch_count
components-few s w marks = go s.apply_largest_component
  where
    labels : List ℕ
    labels = patch_labels w (places (sides_of s)) marks

    go : (b : Bool) → cond b (tally (λ (k : ℕ). eqb (get_or labels k 0) k) w.count) 0 ≤ w.count
    go true = tally-le (λ (k : ℕ). eqb (get_or labels k 0) k) w.count
    go false = omega arith

-- nor more rounds
pub rounds-few : (s : Settings) (w : View) (strength : List Float) (marks : List ℕ) → (peel_of s w strength marks).rounds ≤ w.count
unfolding peeled_in rounds_in
rounds-few s w strength marks = first-le _ 0 w.count (omega arith)
