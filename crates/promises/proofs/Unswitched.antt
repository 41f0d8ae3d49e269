-- The validate mark goes by neither switch. Assumes nothing.
use mathlib.Core.Path.{◌≡◌, refl}
use Prim.Native.Nat.{ℕ}
use Rattle.view.specs.View.{View}
use Rattle.cells.specs.Cell.{Cell}
use Rattle.sheet_file.specs.declared.Settings.{Settings}
use Rattle.ruling.specs.Switches.{switched}
use Rattle.validate.specs.Validate.{validate_mark, steps_of, scales_of, flags_of, residual_flags_of, deviations_of, figures_of}

pub validate-stays : (s : Settings) (a b : ℕ) (w : View) (cell : ℕ → Cell) (k : ℕ) → validate_mark (switched s a b) w cell k ≡ validate_mark s w cell k
unfolding validate_mark steps_of scales_of flags_of residual_flags_of deviations_of figures_of
validate-stays s a b w cell k = refl
