-- What follows where no float of tag 1 or 2 is outside the limit. Assumes nothing.
use Rattle.std.specs.List.{list_any}
use mathlib.Core.Path.{◌≡◌}
use mathlib.Core.Bool.{true, false, ◌&&◌}
use mathlib.Core.List.{List}
use Prim.Native.Nat.{ℕ}
use Rattle.folds.proofs.Among.{none_in}
use Rattle.sheet_file.specs.Limit.{outside}
use Rattle.sheet_file.specs.Frame.{gate_start, Held}
use Rattle.sheet_file.specs.Refusals.{settings_floats, gate_floats, bad_float, FloatHeld, SettingsHeld, GateHeld}
use Rattle.sheet_file.specs.declared.Layout.{Layout}
use Rattle.std.proofs.lemmas.Bool.{or_parts}

module _ (file : List ℕ) (f : Layout) (h : bad_float file f ≡ false) where
  parts : (list_any outside (settings_floats file f.full) ≡ false) × (f.gated && list_any outside (gate_floats file (gate_start f.full)) ≡ false)
  unfolding bad_float
  parts = or_parts (list_any outside (settings_floats file f.full)) (f.gated && list_any outside (gate_floats file (gate_start f.full))) h

  pub first_held : Held file f → FloatHeld file 3
  first_held l = record { fits = l.short; inside = (none_in outside (settings_floats file f.full) parts.0).0 }

  pub full_held : Held file f → f.full ≡ true → SettingsHeld file
  full_held l t = record { fits = l.long t; inside = rw t at parts.0 }

  pub gate_held : Held file f → f.gated ≡ true → GateHeld file (gate_start f.full)
  gate_held l t = record { fits = l.gate t; inside = rw t at parts.1 }
