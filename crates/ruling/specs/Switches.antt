-- "Changing only the two switches": the file with other switches, and the settings with them. Assumes nothing.
use Rattle.std.specs.Prelude.{◌≡◌, false, List, ◌⊎◌, ℕ, ◌≤◌, ◌<◌, eqb, length, get_or}
use Rattle.sheet_file.specs.Bytes.{byte_at}
use Rattle.sheet_file.specs.Refusals.{no_flag}
use Rattle.sheet_file.specs.declared.Settings.{Settings}

-- other is file with other switches, bytes 22 and 23, each 0 or 1
pub record Switched (file other : List ℕ) : Type 0 where
  pub size : length other ≡ length file
  pub rest : (k : ℕ) → (k < 22) ⊎ (24 ≤ k) → get_or other k 0 ≡ get_or file k 0
  pub first : no_flag (byte_at other 22) ≡ false
  pub second : no_flag (byte_at other 23) ≡ false

-- settings with these bytes for their switches
abbrev pub switched : Settings → ℕ → ℕ → Settings
switched s a b = record {
  cell_size = s.cell_size;
  line_tol_rel = s.line_tol_rel;
  line_min_members = s.line_min_members;
  local_h_tol_rel = s.local_h_tol_rel;
  use_step_aware = s.use_step_aware;
  step_deviation_thresh_rel = s.step_deviation_thresh_rel;
  apply_wrong_label_drops = eqb a 1;
  apply_largest_component = eqb b 1;
  edge_shape = s.edge_shape;
  score_frac = s.score_frac;
}
