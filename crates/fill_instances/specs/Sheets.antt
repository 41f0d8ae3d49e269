-- A row of three whose middle is dropped, and the same kept points with another middle, other indices and settings; a sheet whose fills change when
-- it is moved. Assumes nothing.
use Rattle.std.specs.Prelude.{Bool, false, true, List, [], ◌∷◌, ◌++◌, ℕ, None, Some, Option}
use Rattle.folds.specs.Arith.{f32}
use Rattle.cells.specs.Points.{Point}
use Rattle.sheet_file.specs.declared.EdgeShapeParams.{EdgeShapeParams}
use Rattle.sheet_file.specs.Bytes.{little_endian}
use Rattle.sheet_file.specs.Grammar.{field}
use Rattle.sheet_file.specs.Refusals.{defaults_with}
use Rattle.sheet_file.specs.declared.Fraction.TheVariants.{Missing}
use Rattle.sheet_file.specs.declared.Settings.{Settings}
use Rattle.ruling.specs.Switches.{switched}
use Rattle.written_file.specs.File.{points_bytes, long_settings, unweighed_file}
use Rattle.predict.specs.Predict.{Prediction}
use Rattle.std.specs.Prelude.{Some}
use Rattle.edge_shape.specs.Figures.{index_figures}
use Rattle.judging.specs.Judging.{fills_for}
use Rattle.stars.specs.Stars.{rules-compute}
use Rattle.instances.specs.Files.{point}

-- This name on an `unfolding` line opens every definition that marks and fills compute by.
unfoldable pub fills-compute : Bool
unfolding rules-compute index_figures fills_for
fills-compute = true

-- a fill: the number of pairs, and the patterns of x and y
abbrev pub filled : ℕ → ℕ → ℕ → Prediction
filled pairs x y = Some (record { x = f32 x; y = f32 y; n_axis_pairs = pairs })

-- ---- a row of three

-- "Tag 2": minimum degree 0, least continuation cosine of this pattern, least cell cosine −1, both largest ratios 16384
abbrev gate : ℕ → List ℕ
gate cosine = field 2 (0 ∷ (little_endian cosine ++ little_endian 0x4680_0000 ++ little_endian 0xBF80_0000 ++ little_endian 0x4680_0000))

abbrev gate_on : ℕ → Option EdgeShapeParams
gate_on cosine =
    Some
    (record {
      min_cardinal_degree = 0;
      continuation_cos_min = f32 cosine;
      continuation_length_ratio_max = f32 0x4680_0000;
      cell_opposite_cos_min = f32 0xBF80_0000;
      cell_opposite_length_ratio_max = f32 0x4680_0000;
    })

-- the largest-patch switch off, line tolerance 0.15, line minimum 3, local tolerance 0.20
abbrev pub row_settings : Settings
row_settings = switched (defaults_with 3 (f32 0x4120_0000) (gate_on 0x3F00_0000) Missing) 1 0

-- (0,0) 1 at (0,0); (1,0) 2 at (10,10); (2,0) 3 at (20,0): the continuation turns at the middle
abbrev pub row : List Point
row = point 0 0 1 0 0 ∷ point 1 0 2 0x4120_0000 0x4120_0000 ∷ point 2 0 3 0x41A0_0000 0 ∷ []

abbrev pub row_file : List ℕ
row_file = field 1 (long_settings 0x4120_0000 3 1 0) ++ (gate 0x3F00_0000 ++ field 3 (points_bytes row))

-- its first two points the other way round
abbrev pub row_turned : List ℕ
row_turned = field 1 (long_settings 0x4120_0000 3 1 0) ++ (gate 0x3F00_0000 ++ field 3 (points_bytes (point 1 0 2 0x4120_0000 0x4120_0000 ∷ point 0 0 1 0 0 ∷ point 2 0 3 0x41A0_0000 0 ∷ [])))

-- moved by (−6, 7): 0xFFFFFFFA is −6
abbrev pub row_moved : List Point
row_moved = point 0xFFFF_FFFA 7 1 0 0 ∷ point 0xFFFF_FFFB 7 2 0x4120_0000 0x4120_0000 ∷ point 0xFFFF_FFFC 7 3 0x41A0_0000 0 ∷ []

-- ---- the same kept points: the middle at (10,−7), other indices, cell size 20, the wrong-label switch off and cosine 0.9

abbrev pub other_settings : Settings
other_settings = switched (defaults_with 3 (f32 0x41A0_0000) (gate_on 0x3F66_6666) Missing) 0 0

abbrev pub other : List Point
other = point 0 0 8 0 0 ∷ point 1 0 9 0x4120_0000 0xC0E0_0000 ∷ point 2 0 7 0x41A0_0000 0 ∷ []

-- listed from its end
abbrev pub other_file : List ℕ
other_file = field 1 (long_settings 0x41A0_0000 3 0 0) ++ (gate 0x3F66_6666 ++ field 3 (points_bytes (point 2 0 7 0x41A0_0000 0 ∷ point 1 0 9 0x4120_0000 0xC0E0_0000 ∷ point 0 0 8 0 0 ∷ [])))

-- ---- five points: u and v enter the fits as f32s

-- cell size 1, line tolerance −1 and minimum 2, local tolerance 9, both switches off
abbrev pub plus_settings : Settings
plus_settings = record {
  cell_size = f32 0x3F80_0000;
  line_tol_rel = f32 0xBF80_0000;
  line_min_members = 2;
  local_h_tol_rel = f32 0x4110_0000;
  use_step_aware = false;
  step_deviation_thresh_rel = f32 0;
  apply_wrong_label_drops = false;
  apply_largest_component = false;
  edge_shape = None;
  score_frac = Missing;
}

-- (0,v) 0 at (2,10); (1,v−1) 1 at (12,0); (1,v) 2 at (12,11); (1,v+1) 3 at (12,18); (2,v) 4 at (23,9), by the patterns of v − 1, v and v + 1
abbrev plus_at : ℕ → ℕ → ℕ → List Point
plus_at below v above =
    point 0 v 0 0x4000_0000 0x4120_0000
    ∷ point 1 below 1 0x4140_0000 0 ∷ point 1 v 2 0x4140_0000 0x4130_0000 ∷ point 1 above 3 0x4140_0000 0x4190_0000
    ∷ point 2 v 4 0x41B8_0000 0x4110_0000
    ∷ []

abbrev pub plus : List Point
plus = plus_at 0 1 2

-- moved by (0, −1)
abbrev pub plus_moved : List Point
plus_moved = plus_at 0xFFFF_FFFF 0 1

abbrev pub plus_file : List ℕ
plus_file =
    unweighed_file
    (little_endian 0x3F80_0000 ++ (little_endian 0xBF80_0000 ++ (2 ∷ 0 ∷ (little_endian 0x4110_0000 ++ (0 ∷ (little_endian 0 ++ (0 ∷ 0 ∷ [])))))))
    plus
