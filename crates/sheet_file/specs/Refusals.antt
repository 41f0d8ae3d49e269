-- The settings of a sheet file, the conditions of the numbers 1, 12 and 2 to 5, and what is read of a file and the length of a result buffer.
-- Assumes nothing.
use Rattle.std.specs.List.{list_any}
use Rattle.std.specs.Prelude.{◌≡◌, Bool, true, false, cond, not, ◌&&◌, ◌||◌, List, [], ◌∷◌, ℕ, ◌+◌, ◌*◌, ◌≤◌, eqb, ltb, length, Float, Option, Some, None, is_some, is_none, Result, Ok, Err}
use Rattle.folds.specs.Arith.{f32}
use Rattle.view.specs.View.{max_points}
use Rattle.refusals.specs.First.{Condition, ruled}
use Rattle.sheet_file.specs.Bytes.{byte_at, le16, le32}
use Rattle.sheet_file.specs.Limit.{outside}
use Rattle.sheet_file.specs.Frame.{framing_of, layout_in, weights_of, gate_start}
use Rattle.sheet_file.specs.declared.Layout.{Layout}
use Rattle.sheet_file.specs.declared.EdgeShapeParams.{EdgeShapeParams}
use Rattle.sheet_file.specs.declared.Fraction.{Fraction}
use Rattle.sheet_file.specs.declared.Fraction.TheVariants.{Missing, Outside, Given}
use Rattle.sheet_file.specs.declared.Settings.{Settings}
use Rattle.sheet_file.specs.declared.Header.{Header}

-- the f32 in the four bytes from a position on
abbrev pub float_at : List ℕ → ℕ → Float
float_at file at = f32 (le32 file at)

-- ---- the settings

-- "the rest is `ValidationParams::default` with both switches 1": 0.15, 0.20, off, 0.0, with this line minimum
abbrev pub defaults_with : ℕ → Float → Option EdgeShapeParams → Fraction → Settings
defaults_with minimum cell_size gate fraction = record {
  cell_size = cell_size;
  line_tol_rel = f32 0x3E19999A;
  line_min_members = minimum;
  local_h_tol_rel = f32 0x3E4CCCCD;
  use_step_aware = false;
  step_deviation_thresh_rel = f32 0;
  apply_wrong_label_drops = true;
  apply_largest_component = true;
  edge_shape = gate;
  score_frac = fraction;
}

-- "Length 4 gives the cell size only", and (document 02, A.9) "the default line minimum becomes 4 for length-4 settings"
unfoldable pub defaults_for : Float → Option EdgeShapeParams → Fraction → Settings
defaults_for = defaults_with 4

-- "cell size f32, line tolerance f32, line minimum u16, local tolerance f32, step flag u8, step threshold f32, wrong-label switch u8,
-- largest-patch switch u8", from byte 3 of the file on
unfoldable pub settings_in : List ℕ → Option EdgeShapeParams → Fraction → Settings
settings_in file gate fraction = record {
  cell_size = float_at file 3;
  line_tol_rel = float_at file 7;
  line_min_members = le16 file 11;
  local_h_tol_rel = float_at file 13;
  use_step_aware = eqb (byte_at file 17) 1;
  step_deviation_thresh_rel = float_at file 18;
  apply_wrong_label_drops = eqb (byte_at file 22) 1;
  apply_largest_component = eqb (byte_at file 23) 1;
  edge_shape = gate;
  score_frac = fraction;
}

-- "minimum degree u8, then f32s: least continuation cosine, largest continuation ratio, least cell cosine, largest cell ratio"
unfoldable pub gate_in : List ℕ → ℕ → EdgeShapeParams
gate_in file at = record {
  min_cardinal_degree = byte_at file at;
  continuation_cos_min = float_at file (at + 1);
  continuation_length_ratio_max = float_at file (at + 5);
  cell_opposite_cos_min = float_at file (at + 9);
  cell_opposite_length_ratio_max = float_at file (at + 13);
}

-- "Absent means no edge-shape gate"
unfoldable pub edge_shape_of : List ℕ → Layout → Option EdgeShapeParams
edge_shape_of file f = cond f.gated (Some (gate_in file (gate_start f.full))) None

-- "Tag 4, optional, .. carries a fraction f32": that in its first four bytes; one that number 13 refuses is only said to be so
abbrev pub fraction_in : Float → Fraction
fraction_in x = cond (outside x) Outside (Given x)

unfoldable pub fraction_of : List ℕ → Layout → Fraction
fraction_of file f = cond (is_some f.weights) (fraction_in (float_at file (weights_of f).at)) Missing

unfoldable pub settings_of : List ℕ → Layout → Settings
settings_of file f = cond f.full (settings_in file (edge_shape_of file f) (fraction_of file f)) (defaults_for (float_at file 3) (edge_shape_of file f) (fraction_of file f))

-- ---- the conditions

-- "1. The fields, their order, their lengths or the end of the file differ from the list above."
abbrev pub misframing : Option Layout → Bool
misframing x = is_none x

abbrev pub misframed : List ℕ → Bool
misframed file = misframing (framing_of file)

-- "It refuses with 12, right after 1, a tag 4 that is not 4 bytes plus 4 per point"
abbrev pub misfit : Layout → Bool
misfit f = is_some f.weights && not (eqb (weights_of f).len (4 + 4 * f.count))

-- "2. There are more than 2,048 points"; document 02, A.4, makes it 2,304
abbrev pub too_many : ℕ → Bool
too_many count = ltb max_points count

-- "3. The result buffer is shorter than 28 bytes per point."
abbrev pub too_short : ℕ → ℕ → Bool
too_short room count = ltb room (28 * count)

-- "4. The step flag or a switch is neither 0 nor 1."
abbrev pub no_flag : ℕ → Bool
no_flag b = not (eqb b 0) && not (eqb b 1)

-- only settings of length 21 have them
unfoldable pub bad_flag : List ℕ → Layout → Bool
bad_flag file f = f.full && (no_flag (byte_at file 17) || (no_flag (byte_at file 22) || no_flag (byte_at file 23)))

-- the floats of tag 1, of length 21 or 4, and of tag 2, whose data begin at a position
abbrev pub settings_floats : List ℕ → Bool → List Float
settings_floats file full = float_at file 3 ∷ cond full (float_at file 7 ∷ float_at file 13 ∷ float_at file 18 ∷ []) []

abbrev pub gate_floats : List ℕ → ℕ → List Float
gate_floats file at = float_at file (at + 1) ∷ float_at file (at + 5) ∷ float_at file (at + 9) ∷ float_at file (at + 13) ∷ []

-- "5. A float of tag 1 or 2 is not finite or exceeds 16,384 in magnitude."
unfoldable pub bad_float : List ℕ → Layout → Bool
bad_float file f = list_any outside (settings_floats file f.full) || (f.gated && list_any outside (gate_floats file (gate_start f.full)))

-- ---- what is asked before a float is read: that it stands in the file, and that the condition of number 5 fails for it

pub record FloatHeld (file : List ℕ) (at : ℕ) : Type 0 where
  pub fits : at + 4 ≤ length file
  pub inside : outside (float_at file at) ≡ false

pub record SettingsHeld (file : List ℕ) : Type 0 where
  pub fits : 24 ≤ length file
  pub inside : list_any outside (settings_floats file true) ≡ false

pub record GateHeld (file : List ℕ) (at : ℕ) : Type 0 where
  pub fits : at + 17 ≤ length file
  pub inside : list_any outside (gate_floats file at) ≡ false

-- ---- what is read

-- the refusals of a file that is framed so, before its points are looked at, in their order
unfoldable pub header_refusals : List ℕ → ℕ → Option Layout → List Condition
header_refusals file room x =
    let f = layout_in x in
    (1, misframing x)
    ∷ (12, misfit f)
    ∷ (2, too_many f.count)
    ∷ (3, too_short room f.count)
    ∷ (4, bad_flag file f)
    ∷ (5, bad_float file f)
    ∷ []

abbrev pub header_of : List ℕ → Layout → Header
header_of file f = record { settings = settings_of file f; layout = f }

-- "A call returns the first number that applies", or what is read
unfoldable pub reading_in : List ℕ → ℕ → Option Layout → Result Header ℕ
unfolding header_refusals
reading_in file room x = ruled Err (Ok (header_of file (layout_in x))) (header_refusals file room x)

unfoldable pub reading_of : List ℕ → ℕ → Result Header ℕ
unfolding reading_in
reading_of file room = reading_in file room (framing_of file)
