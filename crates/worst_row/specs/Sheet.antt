-- What is read of the header of the sheet that takes longest. Assumes nothing.
use Rattle.std.specs.Prelude.{None}
use Rattle.float.specs.Constants.{two}
use Rattle.sheet_file.specs.Refusals.{defaults_with}
use Rattle.sheet_file.specs.declared.Fraction.TheVariants.{Given}
use Rattle.sheet_file.specs.declared.Settings.{Settings}
use Rattle.straight_row.specs.Row.{seven}

-- "no tag 2, .. cell size 7, fraction 2", the rest of the settings spelled out "with 3"
abbrev pub worst_settings : Settings
worst_settings = defaults_with 3 seven None (Given two)
