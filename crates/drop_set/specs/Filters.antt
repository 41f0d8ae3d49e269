-- The filters of a sheet, one after the other: what each marks, from the settings s, the view w, the cells of the ranks and their strengths. A
-- mark is of an index: each point with the index has it. Assumes nothing.
use Rattle.std.specs.Prelude.{Bool, ◌&&◌, ℕ, Float, replicate}
use Rattle.std.proofs.Math.Bool.{cond}
use mathlib.Core.List.{List, [], ◌∷◌}
use Rattle.offsets.specs.declared.Offset.{Offset}
use Rattle.offsets.specs.Offsets.{square_sides, places}
use Rattle.view.specs.View.{View, max_points}
use Rattle.cells.specs.Cell.{Cell}
use Rattle.sheet_file.specs.declared.Fraction.{Fraction}
use Rattle.sheet_file.specs.declared.Fraction.TheVariants.{Missing, Outside, Given}
use Rattle.sheet_file.specs.declared.Settings.{Settings}
use Rattle.marks.specs.Filters.{validate, orientation, wrong, leaf, component}
use Rattle.marks.specs.Marks.{is_set}
use Rattle.marks.specs.Byte.{Marking, marked_by, marked_by_all}
use Rattle.marks.specs.Tally.{counts_of}
use Rattle.residuals.specs.ByIndex.{residuals_of}
use Rattle.validate.specs.Validate.{validate_mark, figures_of, boundary_in}
use Rattle.orientation.specs.Orientation.{orientation_mark}
use Rattle.wrong_label_filters.specs.WrongLabel.{wrong_label_mark}
use Rattle.strengths.specs.Weak.{weak_of}
use Rattle.peel.specs.Peel.{leaf as leaf_test, gone_after, peeled_in, peeled_of}
use Rattle.peel.specs.declared.Peeled.{Peeled}
use Rattle.components.specs.Components.{filter_of}
use Rattle.judged.specs.Judged.{Judged}
use Rattle.judged.specs.declared.Measured.{Measured}
use Rattle.drop_set.specs.declared.DropSet.{DropSet}

-- the offsets that join cells to patches, on a sheet with these settings
abbrev pub sides_of : Settings → List Offset
sides_of s = square_sides

-- ---- the filters that go by the points themselves

-- a filter that does not look at the marks before it
abbrev pub by_points : ℕ → (ℕ → Bool) → Marking
by_points f t = record { filter = f; marks = λ (m : List ℕ). t }

module _ (s : Settings) (w : View) where
  -- the wrong-label mark of rank k's index, with the wrong-label switch
  abbrev pub wrong_mark : ℕ → Bool
  wrong_mark k = s.apply_wrong_label_drops && wrong_label_mark w s.cell_size k

  -- those that see the view alone
  abbrev pub view_filters : List Marking
  view_filters = by_points orientation (orientation_mark w) ∷ by_points wrong wrong_mark ∷ []

  abbrev pub point_filters : (ℕ → Cell) → List Marking
  point_filters cell = by_points validate (validate_mark s w cell) ∷ view_filters

-- ---- and those that go by what these leave

-- 1 at each of n ranks whose strength is below the threshold; none "Without tag 4", and a fraction that number 13 refuses stands on no accepted
-- sheet
abbrev pub weak_by : Fraction → ℕ → List Float → List ℕ
weak_by Missing n strength = replicate max_points 0
weak_by Outside n strength = replicate max_points 0
weak_by (Given fraction) n strength = weak_of n strength fraction

-- "Without tag 4 there are no such marks and zero rounds"
abbrev pub no_leaves : Peeled
no_leaves = record { marks = replicate max_points 0; rounds = 0 }

module _ (s : Settings) (w : View) where
  -- "it starts from the marks of the three earlier filters": the weak ends of what they left, and the rounds
  abbrev pub peel_of : List Float → List ℕ → Peeled
  peel_of strength marks = peeled_of w (places (sides_of s)) marks (weak_by s.score_frac w.count strength)

  abbrev pub leaf_marked : List Float → List ℕ → ℕ → Bool
  leaf_marked strength marks = let p = (peel_of strength marks).marks in λ k. is_set p k

  -- "A survivor is a point whose index gets no mark under these rules other than the component mark": one whose byte is 0. Of the survivors'
  -- patches the "smaller patches are marked"; with the largest-patch switch off, none.
  abbrev pub component_marked : List ℕ → ℕ → Bool
  component_marked marks = let c = (filter_of w (places (sides_of s)) marks).marks in λ k. s.apply_largest_component && is_set c k

  -- the weak-end filter "runs before the component filter", whatever the switch says
  abbrev pub patch_filters : List Float → List Marking
  patch_filters strength = record { filter = leaf; marks = leaf_marked strength } ∷ record { filter = component; marks = component_marked } ∷ []

  -- the bytes that the component filter is given
  unfoldable pub peeled_marks : List Float → List ℕ → List ℕ
  unfolding marked_by peeled_in gone_after leaf_test weak_of
  peeled_marks strength marks = marked_by w.count leaf (leaf_marked strength marks) marks

  -- "With the switch off the count is 0."
  unfoldable pub components_in : List ℕ → ℕ
  unfolding filter_of
  components_in marks = cond s.apply_largest_component (filter_of w (places (sides_of s)) marks).components_seen 0

  -- the bytes with their marks too, the count of patches, "the number of rounds that removed something", and the tally
  unfoldable pub patched_of : List Float → List ℕ → DropSet
  unfolding marked_by_all peeled_marks components_in filter_of counts_of
  patched_of strength marks =
      let all = marked_by_all w.count (patch_filters strength) marks in
      record { marks = all; components = components_in (peeled_marks strength marks); rounds = (peel_of strength marks).rounds; tally = counts_of w all }

-- ---- the judged sheet

module _ (s : Settings) (w : View) (cell : ℕ → Cell) where
  -- "Byte 0: marks", up to the wrong-label mark
  unfoldable pub point_marks : List ℕ
  unfolding marked_by_all validate_mark orientation_mark wrong_label_mark
  point_marks = marked_by_all w.count (point_filters s w cell) []

  -- what the filters find that go by the points themselves
  unfoldable pub measured_of : Measured
  unfolding point_marks boundary_in
  measured_of = record { marks = point_marks; boundary = boundary_in s w cell }

  -- and with the others: the judged sheet
  unfoldable pub judged_of : List Float → Judged
  unfolding measured_of patched_of residuals_of figures_of
  judged_of strength =
      let m = measured_of in
      let d = patched_of s w strength m.marks in
      record { marks = d.marks; components = d.components; rounds = d.rounds; tally = d.tally; residuals = residuals_of w cell; figures = figures_of s w; boundary = m.boundary }
