-- The f32 constants of the Rust, each by its bit pattern, which is that of the nearest f32 to the decimal number beside it.
use Rattle.std.specs.Prelude.{ℕ, Float}
use Rattle.std.specs.Float.{binary32}
use Rattle.std.specs.Float.Ieee.{of_bits}
use Rattle.float.specs.Root.{root_of}

-- 0, 1/4, 1/2, 1, 2, 4 and -1
abbrev pub zero : Float
zero = of_bits binary32 0x0000_0000

abbrev pub quarter : Float
quarter = of_bits binary32 0x3e80_0000

abbrev pub half : Float
half = of_bits binary32 0x3f00_0000

abbrev pub one : Float
one = of_bits binary32 0x3f80_0000

abbrev pub two : Float
two = of_bits binary32 0x4000_0000

abbrev pub four : Float
four = of_bits binary32 0x4080_0000

abbrev pub minus_one : Float
minus_one = of_bits binary32 0xbf80_0000

-- f32::EPSILON, which is 2 ^ -23
abbrev pub epsilon : Float
epsilon = of_bits binary32 0x3400_0000

-- "scale 1 if that is at most 1e-12", "|last entry| < 1e-12": 1e-12
abbrev pub negligible : Float
negligible = of_bits binary32 0x2b8c_bccc

-- "√2 over mean distance": the root of 2, by this crate's own root
abbrev pub root_two : Float
root_two = root_of two

-- `ValidationParams::default`: 0.15 and 0.20
abbrev pub line_tolerance : Float
line_tolerance = of_bits binary32 0x3e19_999a

abbrev pub local_tolerance : Float
local_tolerance = of_bits binary32 0x3e4c_cccd

-- "it is judged at ratio 1.5": TOPO_OVERLONG_EDGE_RATIO
abbrev pub overlong_ratio : Float
overlong_ratio = of_bits binary32 0x3fc0_0000

-- "on the whole sheet at 1.6": TOPO_GLOBAL_OVERLONG_EDGE_RATIO
abbrev pub global_overlong_ratio : Float
global_overlong_ratio = of_bits binary32 0x3fcc_cccd

-- "points closer than 0.2 cell sizes": TOPO_DUP_PIXEL_FRAC
abbrev pub duplicate_fraction : Float
duplicate_fraction = of_bits binary32 0x3e4c_cccd

-- "r > 0.30": TOPO_FRONTIER_CURV_TOL
abbrev pub frontier_tolerance : Float
frontier_tolerance = of_bits binary32 0x3e99_999a

-- ---- bit patterns: the sign's place, the place above the significand's 23, +infinity's pattern, and the least of a NaN

abbrev pub sign_bit : ℕ
sign_bit = 0x8000_0000

abbrev pub hidden_bit : ℕ
hidden_bit = 0x80_0000

abbrev pub infinity_bits : ℕ
infinity_bits = 0x7f80_0000

abbrev pub first_nan_bits : ℕ
first_nan_bits = 0x7f80_0001
