-- The cells of an index share their marks: each filter marks an index. Assumes nothing.
use Rattle.std.specs.Prelude.{None, Option, Some}
use mathlib.Core.Path.{◌≡◌, refl, sym, ap, ◌∙◌}
use mathlib.Core.Bool.{Bool, cond, ◌&&◌}
use mathlib.Core.List.{List, [], ◌∷◌}
use Prim.Native.Nat.{ℕ, ◌<◌}
use lib.Dec.{eqb}
use lib.Ieee.{Float}
use lib.ListN.{get_or}
use Rattle.folds.specs.Below.{some}
use Rattle.folds.specs.Lists.{All}
use Rattle.folds.specs.Marked.{bit}
use Rattle.folds.proofs.Column.{column-at}
use Rattle.offsets.specs.Offsets.{places}
use Rattle.view.specs.View.{View, max_points, index_has}
use Rattle.cells.specs.Cell.{Cell}
use Rattle.sheet_file.specs.declared.EdgeShapeParams.{EdgeShapeParams}
use Rattle.sheet_file.specs.declared.Settings.{Settings}
use Rattle.edge_shape.specs.Figures.{no_figures, figures_at, index_figures}
use Rattle.edge_shape.specs.declared.Figures.{Figures}
use Rattle.marks.specs.Marks.{is_set, index_marks}
use Rattle.marks.specs.Byte.{with_mark, Marking, marked_by, marked_by_all}
use Rattle.validate.specs.Validate.{gate_figures, figures_of, validate_mark}
use Rattle.orientation.specs.Orientation.{side_member, orientation_mark}
use Rattle.wrong_label_filters.specs.WrongLabel.{wrong_point, wrong_label_mark}
use Rattle.patches.specs.Patches.{patch_labels}
use Rattle.components.specs.Components.{others_of, filter_of}
use Rattle.drop_set.specs.Filters.{sides_of, wrong_mark, point_filters, point_marks, weak_by, peel_of, leaf_marked, component_marked, judged_of}
use Rattle.peel.specs.Peel.{peeled_in, gone_of}
use Rattle.promises.proofs.Bits.{marks-are, all}

-- ---- bytes

-- each of the filters marks both of two ranks or neither, whatever the bytes before it
abbrev Agreeing : ℕ → ℕ → List Marking → Type 0
Agreeing i j l = All (λ (g : Marking). (m : List ℕ) → g.marks m i ≡ g.marks m j) l

bytes-shared : (n i j : ℕ) → i < n → j < n → (l : List Marking) (marks : List ℕ) → Agreeing i j l → get_or marks i 0 ≡ get_or marks j 0 → get_or (marked_by_all n l marks) i 0 ≡ get_or (marked_by_all n l marks) j 0
unfolding marked_by_all marked_by
bytes-shared n i j a b [] marks h e = e
bytes-shared n i j a b (g ∷ l) marks h e =
    bytes-shared n i j a b l (marked_by n g.filter (g.marks marks) marks) h.1
    (column-at max_points 0 n byte i a ∙ ap (λ (t : Bool). cond t (with_mark g.filter (get_or marks i 0)) (get_or marks i 0)) (h.0 marks)
    ∙ ap (λ (m : ℕ). cond (g.marks marks j) (with_mark g.filter m) m) e ∙ sym (column-at max_points 0 n byte j b))
  where
    byte : ℕ → ℕ
    byte k = cond (g.marks marks k) (with_mark g.filter (get_or marks k 0)) (get_or marks k 0)

-- ---- the filters

module _ (s : Settings) (w : View) (cell : ℕ → Cell) (strength : List Float) (i j : ℕ) (a : i < w.count) (b : j < w.count) (e : w.by_idx i ≡ w.by_idx j) where
  has-shared : (t : ℕ → Bool) → index_has w t i ≡ index_has w t j
  has-shared t = ap (λ (m : ℕ). some (λ (k : ℕ). t k && eqb (w.by_idx k) m) w.count) e

  figures-shared : (g : Option EdgeShapeParams) → get_or (gate_figures g w) i no_figures ≡ get_or (gate_figures g w) j no_figures
  unfolding index_figures
  figures-shared None = column-at max_points no_figures w.count (λ (k : ℕ). no_figures) i a ∙ sym (column-at max_points no_figures w.count (λ (k : ℕ). no_figures) j b)
  figures-shared (Some g) =
      let figures : ℕ → Figures = λ k. figures_at g w (w.by_idx k) in
      column-at max_points no_figures w.count figures i a ∙ ap (figures_at g w) e ∙ sym (column-at max_points no_figures w.count figures j b)

  validate-shared : validate_mark s w cell i ≡ validate_mark s w cell j
  unfolding validate_mark figures_of
  validate-shared = rw (e, figures-shared s.edge_shape)

  orientation-shared : orientation_mark w i ≡ orientation_mark w j
  unfolding orientation_mark
  orientation-shared = rw (has-shared (side_member w 1), has-shared (side_member w 2))

  wrong-shared : wrong_mark s w i ≡ wrong_mark s w j
  unfolding wrong_label_mark
  wrong-shared = ap (λ (t : Bool). s.apply_wrong_label_drops && t) (has-shared (wrong_point w s.cell_size))

  component-shared : (marks : List ℕ) → component_marked s w marks i ≡ component_marked s w marks j
  unfolding filter_of index_marks
  component-shared marks =
      ap (λ (m : ℕ). s.apply_largest_component && eqb m 1)
      (column-at max_points 0 w.count mark i a ∙ ap bit (has-shared (is_set others)) ∙ sym (column-at max_points 0 w.count mark j b))
    where
      others : List ℕ
      others = others_of w.count (patch_labels w (places (sides_of s)) marks)

      mark : ℕ → ℕ
      mark k = bit (index_has w (is_set others) k)

  leaf-shared : (marks : List ℕ) → leaf_marked s w strength marks i ≡ leaf_marked s w strength marks j
  unfolding peeled_in
  leaf-shared marks =
      let gone = gone_of w (places (sides_of s)) marks (weak_by s.score_frac w.count strength) in
      let rounds = (peel_of s w strength marks).rounds in
      let mark : ℕ → ℕ = λ k. bit (is_set (gone rounds) (w.by_idx k)) in
      ap (λ (m : ℕ). eqb m 1) (column-at max_points 0 w.count mark i a ∙ ap (λ (m : ℕ). bit (is_set (gone rounds) m)) e ∙ sym (column-at max_points 0 w.count mark j b))

  -- and so do those that go by the points themselves
  pub points-shared : get_or (point_marks s w cell) i 0 ≡ get_or (point_marks s w cell) j 0
  unfolding point_marks
  points-shared = bytes-shared w.count i j a b (point_filters s w cell) [] ((λ m. validate-shared), ((λ m. orientation-shared), ((λ m. wrong-shared), tt))) refl

  all-shared : Agreeing i j (all s w cell strength)
  all-shared = ((λ m. validate-shared), ((λ m. orientation-shared), ((λ m. wrong-shared), (leaf-shared, (component-shared, tt)))))

  pub byte-shared : get_or (judged_of s w cell strength).marks i 0 ≡ get_or (judged_of s w cell strength).marks j 0
  byte-shared = rw (marks-are s w cell strength) (bytes-shared w.count i j a b (all s w cell strength) [] all-shared refl)
