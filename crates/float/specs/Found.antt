-- What the code finds of a root, from the scaled number and from the pattern of the f32. Assumes nothing.
use Rattle.std.specs.Prelude.{cond, ℕ, ◌+◌, ◌*◌, ◌/◌, ◌%◌, eqb, ℤ, pos, ◌-ℤ◌, Some}
use Rattle.std.specs.Float.{binary32}
use Rattle.std.specs.Float.Ieee.{of_bits}
use Rattle.float.specs.Constants.{hidden_bit}
use Rattle.float.specs.Root.{near_root}
use Rattle.float.specs.declared.ScaledRoot.{ScaledRoot}
use Rattle.float.specs.declared.Distance.{Distance}

-- R − S²
abbrev pub remainder_from : ℕ → ℤ
remainder_from r = pos r -ℤ pos (near_root r * near_root r)

-- from the scaled number r of a number with d digits in base 4
abbrev pub distance_at : ℕ → ℕ → Distance
distance_at d r = record { value = of_bits binary32 ((d + 50) * hidden_bit + near_root r); remainder = Some (remainder_from r) }

-- S and the power from the pattern b of a root, which is 0 or that of a normal number
abbrev pub scaled_root_at : ℕ → ℤ → ScaledRoot
scaled_root_at b z = cond (eqb b 0) (record { root = 0; remainder = z; power = pos 0 }) (record { root = hidden_bit + b % hidden_bit; remainder = z; power = pos 300 -ℤ pos (b / hidden_bit * 2) })
