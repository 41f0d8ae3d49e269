-- The marks of a judged sheet, bit by bit: each is its filter's, there is no other, and a survivor's byte was 0 before the component filter.
-- Assumes nothing.
use mathlib.Core.Path.{◌≡◌, refl, sym, ap, ◌∙◌}
use mathlib.Core.Bool.{not, ◌&&◌}
use mathlib.Core.List.{List, [], ◌∷◌, ◌++◌}
use Prim.Native.Nat.{ℕ, ◌<◌}
use native.Mathlib.Omega.{arith}
use lib.Dec.{eqb, ltb}
use lib.ListN.{length, get_or}
use lib.Ieee.{Float}
use borrow.Author.Tests.{ltb-true}
use Rattle.folds.specs.Below.{some}
use Rattle.folds.proofs.Below.{and-under}
use Rattle.view.specs.View.{View}
use Rattle.cells.specs.Points.{Point, strengths_of}
use Rattle.cells.specs.Cell.{Cell, cells_of}
use Rattle.grid.specs.Views.{view_of}
use Rattle.sheet_file.specs.declared.Settings.{Settings}
use Rattle.marks.specs.Filters.{filter_count, validate, orientation, wrong, leaf, component}
use Rattle.marks.specs.Byte.{has_mark, Marking, marked_by_all}
use Rattle.marks.proofs.Byte.{not-not, in_two, one-more, marked-by, others-than, next-zero, all_small, zero-means, by-same}
use Rattle.validate.specs.Validate.{validate_mark}
use Rattle.orientation.specs.Orientation.{orientation_mark}
use Rattle.drop_set.specs.Filters.{wrong_mark, by_points, view_filters, point_filters, patch_filters, leaf_marked, component_marked, peeled_marks, patched_of, point_marks, measured_of, judged_of}
use Rattle.judging.specs.Judging.{judged_for}
use Rattle.promises.specs.Words.{other_mark, survivor, kept_rank}

module _ (s : Settings) (w : View) (cell : ℕ → Cell) (strength : List Float) where
  abbrev pub all : List Marking
  all = point_filters s w cell ++ patch_filters s w strength

  -- the filters before the component filter
  abbrev leaf_filter : Marking
  leaf_filter = record { filter = leaf; marks = leaf_marked s w strength }

  abbrev earlier : List Marking
  earlier = point_filters s w cell ++ leaf_filter ∷ []

  abbrev component_filter : Marking
  component_filter = record { filter = component; marks = component_marked s w }

  -- the byte of marks of rank k
  abbrev byte_at : ℕ → ℕ
  byte_at k = get_or (judged_of s w cell strength).marks k 0

  -- the bytes that the component filter is given
  abbrev pub left : List ℕ
  left = peeled_marks s w strength (point_marks s w cell)

  pub marks-are : (judged_of s w cell strength).marks ≡ marked_by_all w.count all []
  unfolding judged_of measured_of patched_of point_marks
  marks-are = sym (in_two w.count (point_filters s w cell) (patch_filters s w strength) [])

  left_is : marked_by_all w.count earlier [] ≡ left
  unfolding peeled_marks point_marks
  left_is = one-more w.count (point_filters s w cell) leaf_filter []

  module _ (k : ℕ) (h : k < w.count) where
    read : (f : ℕ) → has_mark f (byte_at k) ≡ has_mark f (get_or (marked_by_all w.count all []) k 0)
    read f = ap (λ (l : List ℕ). has_mark f (get_or l k 0)) marks-are

    pub validate-bit : has_mark validate (byte_at k) ≡ validate_mark s w cell k
    validate-bit = read validate ∙ marked-by w.count k h [] _ (by_points validate (validate_mark s w cell)) refl refl refl refl

    pub orientation-bit : has_mark orientation (byte_at k) ≡ orientation_mark w k
    orientation-bit =
        read orientation
        ∙ marked-by w.count k h (by_points validate (validate_mark s w cell) ∷ []) _ (by_points orientation (orientation_mark w)) refl refl refl refl

    pub wrong-bit : has_mark wrong (byte_at k) ≡ wrong_mark s w k
    wrong-bit =
        read wrong
        ∙ marked-by w.count k h (by_points validate (validate_mark s w cell) ∷ by_points orientation (orientation_mark w) ∷ []) _ (by_points wrong (wrong_mark s w)) refl refl refl refl

    pub leaf-bit : has_mark leaf (byte_at k) ≡ leaf_marked s w strength (point_marks s w cell) k
    unfolding point_marks
    leaf-bit = read leaf ∙ marked-by w.count k h (point_filters s w cell) (component_filter ∷ []) leaf_filter refl refl refl refl

    pub component-bit : has_mark component (byte_at k) ≡ component_marked s w left k
    component-bit = read component ∙ marked-by w.count k h earlier [] component_filter refl refl refl refl ∙ ap (λ (l : List ℕ). component_marked s w l k) left_is

    -- a mark other than the component mark
    pub others-are : other_mark (byte_at k) ≡ not (eqb (get_or left k 0) 0)
    others-are =
        ap (λ (l : List ℕ). other_mark (get_or l k 0)) marks-are
        ∙ others-than w.count k h earlier component_filter refl (omega arith) refl
        ∙ ap (λ (l : List ℕ). not (eqb (get_or l k 0) 0)) left_is

    -- no mark: none before the component filter, and not its own
    pub no-mark : eqb (byte_at k) 0 ≡ not (component_marked s w left k) && eqb (get_or left k 0) 0
    no-mark =
        ap (λ (l : List ℕ). eqb (get_or l k 0) 0) (marks-are ∙ one-more w.count earlier component_filter [])
        ∙ next-zero w.count k h component_filter (marked_by_all w.count earlier []) (all_small w.count k h earlier [] refl (omega arith)) (omega arith)
        ∙ ap (λ (l : List ℕ). not (component_marked s w l k) && eqb (get_or l k 0) 0) left_is

    -- none before the component filter: neither before the weak-end filter, nor its own
    pub left-zero : eqb (get_or left k 0) 0 ≡ not (leaf_marked s w strength (point_marks s w cell) k) && eqb (get_or (point_marks s w cell) k 0) 0
    unfolding point_marks
    left-zero =
        ap (λ (l : List ℕ). eqb (get_or l k 0) 0) (sym left_is ∙ one-more w.count (point_filters s w cell) leaf_filter [])
        ∙ next-zero w.count k h leaf_filter (point_marks s w cell) (all_small w.count k h (point_filters s w cell) [] refl (omega arith)) (omega arith)

    -- the byte is 0 just where no filter has marked the point
    pub none-marked : eqb (byte_at k) 0 ≡ not (some (λ (f : ℕ). has_mark f (byte_at k)) filter_count)
    unfolding some
    none-marked =
        ap (λ (l : List ℕ). eqb (get_or l k 0) 0) marks-are
        ∙ zero-means w.count k h all [] refl (omega arith) refl
        ∙ ap (λ (l : List ℕ). not (some (λ (f : ℕ). has_mark f (get_or l k 0)) filter_count)) (sym marks-are)

-- of the cells, the marks, the count and the rounds depend on the validate marks alone
module _ (s : Settings) (w : View) (cell cell' : ℕ → Cell) (strength : List Float) (same : (k : ℕ) → k < w.count → validate_mark s w cell k ≡ validate_mark s w cell' k) where
  points-same : point_marks s w cell ≡ point_marks s w cell'
  unfolding point_marks marked_by_all
  points-same = ap (marked_by_all w.count (view_filters s w)) (by-same w.count validate (validate_mark s w cell) (validate_mark s w cell') [] same)

  pub marks-same : (judged_of s w cell strength).marks ≡ (judged_of s w cell' strength).marks
  unfolding judged_of measured_of
  marks-same = ap (λ (m : List ℕ). (patched_of s w strength m).marks) points-same

  pub counts_same : ((judged_of s w cell strength).components ≡ (judged_of s w cell' strength).components) × ((judged_of s w cell strength).rounds ≡ (judged_of s w cell' strength).rounds)
  unfolding judged_of measured_of
  counts_same = (ap (λ (m : List ℕ). (patched_of s w strength m).components) points-same, ap (λ (m : List ℕ). (patched_of s w strength m).rounds) points-same)

-- ---- the same of points in cell order

module _ (s : Settings) (ps : List Point) where
  -- the bytes before the component filter
  abbrev pub dropped : List ℕ
  dropped = left s (view_of ps) (cells_of ps) (strengths_of ps)

  pub survivor-is : (k : ℕ) → survivor s ps k ≡ ltb k (length ps) && eqb (get_or dropped k 0) 0
  unfolding judged_for view_of
  survivor-is k = and-under (ltb k (length ps)) (λ e. ap not (others-are s (view_of ps) (cells_of ps) (strengths_of ps) k (ltb-true k (length ps) e)) ∙ not-not (eqb (get_or dropped k 0) 0))

  pub kept-is : (k : ℕ) → kept_rank s ps k ≡ ltb k (length ps) && (not (component_marked s (view_of ps) dropped k) && eqb (get_or dropped k 0) 0)
  unfolding judged_for view_of
  kept-is k = and-under (ltb k (length ps)) (λ e. no-mark s (view_of ps) (cells_of ps) (strengths_of ps) k (ltb-true k (length ps) e))
