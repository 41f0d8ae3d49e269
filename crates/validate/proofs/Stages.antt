-- The stages of `validate`, one after the other: what the code makes of each is what the definitions say. Assumes nothing.
use Rattle.std.specs.Prelude.{None, Option, Some}
use mathlib.Core.Path.{◌≡◌, refl, ap, ◌∙◌}
use mathlib.Core.Bool.{Bool, ◌||◌}
use mathlib.Core.List.{List}
use Prim.Native.Nat.{ℕ, ◌≤◌, ◌<◌}
use lib.ListN.{get_or, replicate}
use lib.Ieee.{Float, nan}
use Rattle.folds.specs.Column.{column}
use Rattle.folds.proofs.Column.{column-ext, filled, replicate-at}
use Rattle.folds.specs.Marked.{bit}
use Rattle.offsets.specs.Offsets.{square_sides, places}
use Rattle.view.specs.View.{View, max_points}
use Rattle.cells.specs.Cell.{Cell}
use Rattle.marks.specs.Marks.{is_set}
use Rattle.marks.proofs.Guards.{set_is}
use Rattle.sheet_file.specs.declared.Settings.{Settings}
use Rattle.sheet_file.specs.declared.EdgeShapeParams.{EdgeShapeParams}
use Rattle.step.specs.Step.{step_at, scale_at}
use Rattle.step.specs.Deviation.{deviates}
use Rattle.lines.specs.Flags.{flags_at}
use Rattle.local_h.specs.Residual.{residual_at}
use Rattle.residuals.specs.ByIndex.{index_flags}
use Rattle.residuals.specs.declared.Flags.{Flags}
use Rattle.blame.specs.Marks.{evidence_by, is_marked, blame_marks}
use Rattle.edge_shape.specs.Figures.{no_figures}
use Rattle.edge_shape.specs.declared.Figures.{Figures}
use Rattle.edge_shape.specs.declared.Reason.{Reason}
use Rattle.patches.specs.Boxes.{boundary_of}
use Rattle.judged.specs.declared.Measured.{Measured}
use Rattle.judged.specs.Judged.{blank_figures}
use Rattle.offsets.specs.declared.Offset.{Offset}
use Rattle.validate.specs.Validate.{steps_of, scales_of, flags_of, residual_flags_of, deviations_of, evidence_of, gate_figures, gate_boundary, figures_of, boundary_in, is_reason, validate_mark, validate_marks}
use Rattle.validate.specs.Parts.{validated_of}

module _ (s : Settings) (w : View) (cell : ℕ → Cell) where
  -- rules 1 to 4
  pub rules-are : {steps scales : List Float} {flags deviations marks : List ℕ} {r : Flags}
      → steps ≡ column max_points nan w.count (step_at w s.use_step_aware)
      → scales ≡ column max_points nan w.count (scale_at w (λ (m : ℕ). get_or steps m nan) s.cell_size)
      → flags ≡ column max_points 0 w.count (flags_at w (λ (k : ℕ). get_or scales k nan) s.line_tol_rel s.line_min_members)
      → r ≡ index_flags (residual_at w cell) (λ (j : ℕ). get_or scales j nan) s.local_h_tol_rel w
      → deviations ≡ column max_points 0 w.count (λ (m : ℕ). bit (deviates (λ (k : ℕ). get_or steps k nan) w.count s.step_deviation_thresh_rel m))
      → marks ≡ blame_marks w (evidence_by flags r.over r.high deviations)
      → marks ≡ blame_marks w (evidence_of s w cell)
  unfolding steps_of scales_of flags_of residual_flags_of deviations_of
  rules-are st sc fl re de ma = rw (ma, de, re, fl, sc, st)

  -- the marks of rules 1 to 4 are read as the rules
  marked-is : (k : ℕ) → k < w.count → is_set (blame_marks w (evidence_of s w cell)) k ≡ is_marked w (evidence_of s w cell) (w.by_idx k)
  unfolding blame_marks
  marked-is k l = set_is max_points w.count (λ (j : ℕ). is_marked w (evidence_of s w cell) (w.by_idx j)) (blame_marks w (evidence_of s w cell)) refl k l

  -- with rule 5
  pub all_are : (figures : List Figures) {ruled boundary marks : List ℕ} → ruled ≡ blame_marks w (evidence_of s w cell)
      → ((k : ℕ) → k < w.count → (get_or figures k no_figures).reason ≡ (get_or (figures_of s w) k no_figures).reason) → boundary ≡ gate_boundary s.edge_shape w cell
      → marks ≡ column max_points 0 w.count (λ (k : ℕ). bit (is_set ruled k || is_reason (get_or figures k no_figures).reason))
      → ◌≡◌ {A = Measured} (record { marks = marks; boundary = boundary }) (validated_of s w cell)
  unfolding validated_of validate_marks validate_mark boundary_in
  all_are figures e f g h =
      rw (
        h,
        e,
        g,
        column-ext max_points 0 w.count _ _ (λ k l. ap (λ (b : Bool). bit (b || is_reason (get_or figures k no_figures).reason)) (marked-is k l)
            ∙ ap (λ (t : Option Reason). bit (is_marked w (evidence_of s w cell) (w.by_idx k) || is_reason t)) (f k l)),
      )

-- ---- with and without a gate

blank : {A : Type 0} (d : A) (n : ℕ) → n ≤ max_points → replicate max_points d ≡ column max_points d n (λ (k : ℕ). d)
blank d n h = filled n h (record { long = refl; done = λ k l. replicate-at max_points d k; left = λ k l. refl })

module _ (w : View) {gate : Option EdgeShapeParams} where
  pub off-figures : gate ≡ None → w.count ≤ max_points → blank_figures ≡ gate_figures gate w
  off-figures e h = rw (e, blank no_figures w.count h)

  pub off-boundary : (cell : ℕ → Cell) → gate ≡ None → w.count ≤ max_points → replicate max_points 0 ≡ gate_boundary gate w cell
  off-boundary cell e h = rw (e, blank {A = ℕ} 0 w.count h)

  pub on-boundary : (cell : ℕ → Cell) (g : EdgeShapeParams) {sides : List Offset} {boundary : List ℕ} → gate ≡ Some g → sides ≡ square_sides → boundary ≡ boundary_of w (places sides) cell → boundary ≡ gate_boundary gate w cell
  on-boundary cell g e p b = rw (e, b, p)
