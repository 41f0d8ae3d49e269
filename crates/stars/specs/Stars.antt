-- "The starred sheets go into one proved table about the rules": each by computation of the definitions. The two starred lines about f32
-- alone are in `float`, sheets with strengths in WeakEnds.antt. Assumes nothing.
use Rattle.std.specs.Prelude.{◌≡◌, refl, Bool, true, List, [], ◌∷◌, ℕ, length, get_or, None, is_some}
use Rattle.folds.specs.Arith.{f32}
use Rattle.folds.specs.Lists.{All, list_of}
use Rattle.folds.specs.Marked.{bit}
use Rattle.cells.specs.Points.{Point}
use Rattle.cells.specs.Cell.{cells_of}
use Rattle.sort.specs.Sorted.{sort}
use Rattle.points.specs.Refusals.{number_for, cell_order}
use Rattle.grid.specs.Views.{view_of}
use Rattle.sheet_file.specs.declared.Settings.{Settings}
use Rattle.sheet_file.specs.declared.Fraction.TheVariants.{Missing}
use Rattle.sheet_file.specs.Refusals.{defaults_with, defaults_for}
use Rattle.local_h.specs.Residual.{residuals-compute}
use Rattle.residuals.specs.ByIndex.{last_fit, index_residual, residuals_of, index_flags}
use Rattle.lines.specs.Flags.{flag_count}
use Rattle.step.specs.Step.{step_at, scale_at}
use Rattle.step.specs.Deviation.{deviates}
use Rattle.blame.specs.Marks.{is_marked}
use Rattle.validate.specs.Validate.{steps_of, scales_of, flags_of, residual_flags_of, deviations_of, figures_of}
use Rattle.orientation.specs.Orientation.{vote_at}
use Rattle.patches.specs.Patches.{labels_of}
use Rattle.components.specs.Components.{patch_count, others_of}
use Rattle.marks.specs.Marks.{index_marks}
use Rattle.judging.specs.Judging.{judged_for}

-- What is said of a sheet: the component count, the rounds that removed something and, by rank, the line flags of the index, the vote (0 is
-- none), whether the index has a residual (1 or 0), and the marks ("bit 0 validate, 1 orientation, 2 wrong label, 3 component", and bit 4
-- leaf); then the tally: how many indices are counted under each filter (validate, orientation, wrong, leaf, component), and how many are kept.
-- Marks alone would let wrong rules pass.
pub record Said : Type 0 where
  pub components : ℕ
  pub rounds : ℕ
  pub flags : List ℕ
  pub votes : List ℕ
  pub residuals : List ℕ
  pub marks : List ℕ
  pub tally : List ℕ

-- This name on an `unfolding` line opens every definition that a judged sheet computes by.
unfoldable pub rules-compute : Bool
unfolding view_of cells_of defaults_for residuals-compute last_fit index_residual residuals_of index_flags flag_count step_at scale_at deviates is_marked steps_of scales_of flags_of residual_flags_of deviations_of figures_of labels_of patch_count others_of index_marks judged_for sort number_for
rules-compute = true

-- "Cell size 100, defaults"
abbrev pub settings : Settings
settings = defaults_for (f32 0x42C8_0000) None Missing

abbrev pub of_three : Settings
of_three = defaults_with 3 (f32 0x42C8_0000) None Missing

-- what the definitions say of points in cell order with settings
abbrev pub said_of : Settings → List Point → Said
said_of settings ps =
    let w = view_of ps in
    let flags = flags_of settings w in
    let j = judged_for settings ps in
    record {
      components = j.components;
      rounds = j.rounds;
      flags = list_of (length ps) (λ (k : ℕ). get_or flags (w.by_idx k) 0);
      votes = list_of (length ps) (vote_at w);
      residuals = list_of (length ps) (λ (k : ℕ). bit (is_some (get_or j.residuals k None)));
      marks = list_of (length ps) (λ (k : ℕ). get_or j.marks k 0);
      tally = j.tally;
    }

-- a point without tag 4: its cell, its index, and the patterns of its position
abbrev pub pt : ℕ → ℕ → ℕ → ℕ → ℕ → Point
pt u v i x y = record { u = u; v = v; index = i; x = x; y = y; strength = 0 }

abbrev pub says : ℕ → ℕ → List ℕ → List ℕ → List ℕ → List ℕ → List ℕ → Said
says c n f o r m t = record { components = c; rounds = n; flags = f; votes = o; residuals = r; marks = m; tally = t }

-- a sheet's settings, its points in the order of the file, and what is said of it
pub record Star : Type 0 where
  pub settings : Settings
  pub sheet : List Point
  pub said : Said

abbrev star : List Point → Said → Star
star ps s = record { settings = settings; sheet = ps; said = s }

-- none of the numbers 6, 7, 13, 8, 9 and 14 applies to the points, and the definitions say just that of them in cell order
abbrev pub Right : Star → Type 0
Right s = (number_for s.settings.score_frac s.sheet ≡ 0) × (said_of s.settings (cell_order s.sheet) ≡ s.said)

-- and with the line minimum 3 spelled out, which was the default before document 02, A.9
abbrev star_of_three : List Point → Said → Star
star_of_three ps s = record { settings = of_three; sheet = ps; said = s }

abbrev bent_row : List Point
bent_row = pt 0 0 10 0 0 ∷ pt 1 0 11 0x42C8_0000 0x4270_0000 ∷ pt 2 0 12 0x4348_0000 0 ∷ []

abbrev pub stars : List Star
stars =
    -- "No points: components 0, kept 0."
    star [] (says 0 0 [] [] [] [] (0 ∷ 0 ∷ 0 ∷ 0 ∷ 0 ∷ 0 ∷ [])) ∷
    -- "The sheet above."
    star (pt 5 5 14 0x43FA_0000 0x43FA_0000 ∷ pt 0 0 10 0 0 ∷ pt 1 0 11 0x42C8_0000 0 ∷ pt 0 1 12 0 0x42C8_0000 ∷ pt 1 1 13 0x42C8_0000 0x42C8_0000 ∷ []) (says 2 0 (0 ∷ 0 ∷ 0 ∷ 0 ∷ 0 ∷ []) (1 ∷ 0 ∷ 0 ∷ 0 ∷ 0 ∷ []) (0 ∷ 0 ∷ 0 ∷ 0 ∷ 0 ∷ []) (0 ∷ 0 ∷ 0 ∷ 0 ∷ 8 ∷ []) (0 ∷ 0 ∷ 0 ∷ 0 ∷ 1 ∷ 4 ∷ [])) ∷
    -- "Cells (0,0) at (0,0) and (5,5) at (500,500): (0,0) is kept."
    star (pt 0 0 10 0 0 ∷ pt 5 5 11 0x43FA_0000 0x43FA_0000 ∷ []) (says 2 0 (0 ∷ 0 ∷ []) (0 ∷ 0 ∷ []) (0 ∷ 0 ∷ []) (0 ∷ 8 ∷ []) (0 ∷ 0 ∷ 0 ∷ 0 ∷ 1 ∷ 1 ∷ [])) ∷
    -- "(0,0) and (1,0) 19 pixels apart: both W;"
    star (pt 0 0 10 0 0 ∷ pt 1 0 11 0x4198_0000 0 ∷ []) (says 0 0 (0 ∷ 0 ∷ []) (0 ∷ 0 ∷ []) (0 ∷ 0 ∷ []) (4 ∷ 4 ∷ []) (0 ∷ 0 ∷ 2 ∷ 0 ∷ 0 ∷ 0 ∷ [])) ∷
    -- "at 20: none."
    star (pt 0 0 10 0 0 ∷ pt 1 0 11 0x41A0_0000 0 ∷ []) (says 1 0 (0 ∷ 0 ∷ []) (0 ∷ 0 ∷ []) (0 ∷ 0 ∷ []) (0 ∷ 0 ∷ []) (0 ∷ 0 ∷ 0 ∷ 0 ∷ 0 ∷ 2 ∷ [])) ∷
    -- "Row at x = 0, 140, 240, 340: both ends W."
    star (pt 0 0 10 0 0 ∷ pt 1 0 11 0x430C_0000 0 ∷ pt 2 0 12 0x4370_0000 0 ∷ pt 3 0 13 0x43AA_0000 0 ∷ []) (says 1 0 (0 ∷ 0 ∷ 0 ∷ 0 ∷ []) (0 ∷ 0 ∷ 0 ∷ 0 ∷ []) (0 ∷ 0 ∷ 0 ∷ 0 ∷ []) (4 ∷ 0 ∷ 0 ∷ 4 ∷ []) (0 ∷ 0 ∷ 2 ∷ 0 ∷ 0 ∷ 2 ∷ [])) ∷
    -- "With 440 added: only the first."
    star (pt 0 0 10 0 0 ∷ pt 1 0 11 0x430C_0000 0 ∷ pt 2 0 12 0x4370_0000 0 ∷ pt 3 0 13 0x43AA_0000 0 ∷ pt 4 0 14 0x43DC_0000 0 ∷ []) (says 1 0 (0 ∷ 0 ∷ 0 ∷ 0 ∷ 0 ∷ []) (0 ∷ 0 ∷ 0 ∷ 0 ∷ 0 ∷ []) (0 ∷ 0 ∷ 0 ∷ 0 ∷ 0 ∷ []) (4 ∷ 0 ∷ 0 ∷ 0 ∷ 0 ∷ []) (0 ∷ 0 ∷ 1 ∷ 0 ∷ 0 ∷ 4 ∷ [])) ∷
    -- "At 0, 130, 230, 330: none."
    star (pt 0 0 10 0 0 ∷ pt 1 0 11 0x4302_0000 0 ∷ pt 2 0 12 0x4366_0000 0 ∷ pt 3 0 13 0x43A5_0000 0 ∷ []) (says 1 0 (0 ∷ 0 ∷ 0 ∷ 0 ∷ []) (0 ∷ 0 ∷ 0 ∷ 0 ∷ []) (0 ∷ 0 ∷ 0 ∷ 0 ∷ []) (0 ∷ 0 ∷ 0 ∷ 0 ∷ []) (0 ∷ 0 ∷ 0 ∷ 0 ∷ 0 ∷ 4 ∷ [])) ∷
    -- "Row at (0,0), (100,60), (200,0)": it "stays short and gives no flags" (document 02, A.9), since three are fewer than the line minimum 4.
    star bent_row (says 1 0 (0 ∷ 0 ∷ 0 ∷ []) (0 ∷ 0 ∷ 0 ∷ []) (0 ∷ 0 ∷ 0 ∷ []) (0 ∷ 0 ∷ 0 ∷ []) (0 ∷ 0 ∷ 0 ∷ 0 ∷ 0 ∷ 3 ∷ [])) ∷
    -- The same row with 3 spelled out: "one line flag each, none marked."
    star_of_three bent_row (says 1 0 (1 ∷ 1 ∷ 1 ∷ []) (0 ∷ 0 ∷ 0 ∷ []) (0 ∷ 0 ∷ 0 ∷ []) (0 ∷ 0 ∷ 0 ∷ []) (0 ∷ 0 ∷ 0 ∷ 0 ∷ 0 ∷ 3 ∷ [])) ∷
    -- "Cells (0,0), (1,0), (0,1) at x = 0, 30, 60, y = 0: no vote."
    star (pt 0 0 10 0 0 ∷ pt 1 0 11 0x41F0_0000 0 ∷ pt 0 1 12 0x4270_0000 0 ∷ []) (says 1 0 (0 ∷ 0 ∷ 0 ∷ []) (0 ∷ 0 ∷ 0 ∷ []) (0 ∷ 0 ∷ 0 ∷ []) (0 ∷ 0 ∷ 0 ∷ []) (0 ∷ 0 ∷ 0 ∷ 0 ∷ 0 ∷ 3 ∷ [])) ∷
    -- "Index 7 twice at one position, cells (0,0), (1,0): both rows W." In the tally it is one corner.
    star (pt 0 0 7 0 0 ∷ pt 1 0 7 0 0 ∷ []) (says 0 0 (0 ∷ 0 ∷ []) (0 ∷ 0 ∷ []) (0 ∷ 0 ∷ []) (4 ∷ 4 ∷ []) (0 ∷ 0 ∷ 1 ∷ 0 ∷ 0 ∷ 0 ∷ [])) ∷
    []

pub stars-right : All Right stars
unfolding rules-compute
stars-right = ((refl, refl), ((refl, refl), ((refl, refl), ((refl, refl), ((refl, refl), ((refl, refl), ((refl, refl), ((refl, refl), ((refl, refl), ((refl, refl), ((refl, refl), ((refl, refl), tt))))))))))))
