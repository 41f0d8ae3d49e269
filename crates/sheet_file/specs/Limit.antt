-- "not finite or exceeds 16,384 in magnitude", on the value of a float. Assumes nothing.
use Rattle.std.specs.Prelude.{◌*◌, Bool, true, ltb, Float}
use Rattle.std.specs.Float.{nan, inf, fin}
use Rattle.std.specs.Float.Ieee.{up, down}

-- a finite float is m * 2 ^ e, and `up e` and `down e` are the two sides of 2 ^ e as a fraction
abbrev pub outside : Float → Bool
outside nan = true
outside (inf s) = true
outside (fin s m e) = ltb (16384 * down e) (m * up e)
