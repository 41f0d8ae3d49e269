-- The validate mark, residuals and edge figures of a sheet, from its settings s, its view w and the cells of its ranks: document 01,
-- "Validate marks". The two switches occur in none of it. Assumes nothing.
use Rattle.std.specs.Prelude.{Bool, true, false, ◌||◌, Option, None, Some, List, ℕ, get_or, Float}
use Rattle.std.specs.Float.{nan}
use Rattle.folds.specs.Column.{column}
use Rattle.folds.specs.Marked.{bit}
use Rattle.offsets.specs.Offsets.{square_sides, places}
use Rattle.view.specs.View.{View, max_points}
use Rattle.cells.specs.Cell.{Cell}
use Rattle.sheet_file.specs.declared.EdgeShapeParams.{EdgeShapeParams}
use Rattle.sheet_file.specs.declared.Settings.{Settings}
use Rattle.step.specs.Step.{step_at, scale_at}
use Rattle.step.specs.Deviation.{deviates}
use Rattle.lines.specs.Flags.{flags_at}
use Rattle.local_h.specs.Residual.{residual_at}
use Rattle.residuals.specs.ByIndex.{index_flags}
use Rattle.residuals.specs.declared.Flags.{Flags}
use Rattle.blame.specs.Marks.{Evidence, evidence_by, is_marked}
use Rattle.edge_shape.specs.Figures.{no_figures, index_figures}
use Rattle.edge_shape.specs.declared.Figures.{Figures}
use Rattle.edge_shape.specs.declared.Reason.{Reason}
use Rattle.patches.specs.Boxes.{boundary_of}

-- the edge figures of each rank's index. "Absent means no edge-shape gate."
abbrev pub gate_figures : Option EdgeShapeParams → View → List Figures
gate_figures None w = column max_points no_figures w.count (λ (k : ℕ). no_figures)
gate_figures (Some g) w = index_figures g w

-- whether each rank's index lies on the boundary of the box of its patch of all cells
abbrev pub gate_boundary : Option EdgeShapeParams → View → (ℕ → Cell) → List ℕ
gate_boundary None w cell = column max_points 0 w.count (λ (k : ℕ). 0)
gate_boundary (Some g) w cell = boundary_of w (places square_sides) cell

-- there is a gate: "Absent means no edge-shape gate."
abbrev pub is_gated : Option EdgeShapeParams → Bool
is_gated None = false
is_gated (Some g) = true

-- "(5) an edge reason"
abbrev pub is_reason : Option Reason → Bool
is_reason None = false
is_reason (Some reason) = true

-- by index: that of rank k's index
abbrev pub has_reason : List Figures → ℕ → Bool
has_reason figures k = is_reason (get_or figures k no_figures).reason

module _ (s : Settings) (w : View) where
  -- the local step of each index, at its place
  unfoldable pub steps_of : List Float
  steps_of = column max_points nan w.count (step_at w s.use_step_aware)

  -- the step at place m
  abbrev pub index_step : ℕ → Float
  index_step m = get_or steps_of m nan

  -- the scale of each rank's index
  unfoldable pub scales_of : List Float
  scales_of = column max_points nan w.count (scale_at w index_step s.cell_size)

  -- the scale of rank k's index
  abbrev pub index_scale : ℕ → Float
  index_scale k = get_or scales_of k nan

  -- the line flags of each index, at its place
  unfoldable pub flags_of : List ℕ
  flags_of = column max_points 0 w.count (flags_at w index_scale s.line_tol_rel s.line_min_members)

  -- whether the step of each index lies outside the limits
  unfoldable pub deviations_of : List ℕ
  deviations_of = column max_points 0 w.count (λ (m : ℕ). bit (deviates index_step w.count s.step_deviation_thresh_rel m))

  -- the edge figures of each rank's index, by the settings' gate
  unfoldable pub figures_of : List Figures
  figures_of = gate_figures s.edge_shape w

  module _ (cell : ℕ → Cell) where
    -- whether a residual of each rank's index is over the tolerance, and over twice the tolerance
    unfoldable pub residual_flags_of : Flags
    residual_flags_of = index_flags (residual_at w cell) index_scale s.local_h_tol_rel w

    -- what rules 1 to 4 go by
    abbrev pub evidence_of : Evidence
    evidence_of = evidence_by flags_of residual_flags_of.over residual_flags_of.high deviations_of

    -- whether each rank's index lies on the boundary of its patch's box, where there is a gate
    unfoldable pub boundary_in : List ℕ
    boundary_in = gate_boundary s.edge_shape w cell

    -- the validate mark of rank k's index
    unfoldable pub validate_mark : ℕ → Bool
    validate_mark k = is_marked w evidence_of (w.by_idx k) || has_reason figures_of k

    -- 1 at each rank whose index has the mark, else 0
    unfoldable pub validate_marks : List ℕ
    validate_marks = column max_points 0 w.count (λ (k : ℕ). bit (validate_mark k))
