-- The operations of f32, each rounded once to the nearest, ties to even; and f32 constants by their bit patterns. Assumes nothing.
use Rattle.std.specs.Prelude.{ℕ, Float}
use Rattle.std.specs.Float.{binary32}
use Rattle.std.specs.Float.Ieee.{of_bits, add, sub, mul, div}

infixl 6 ◌⊕◌ ◌⊖◌
infixl 7 ◌⊗◌ ◌⊘◌
abbrev pub ◌⊕◌ : Float → Float → Float
◌⊕◌ = add binary32

abbrev pub ◌⊖◌ : Float → Float → Float
◌⊖◌ = sub binary32

abbrev pub ◌⊗◌ : Float → Float → Float
◌⊗◌ = mul binary32

abbrev pub ◌⊘◌ : Float → Float → Float
◌⊘◌ = div binary32

-- the f32 with the bit pattern b
abbrev pub f32 : ℕ → Float
f32 b = of_bits binary32 b

abbrev pub zero_f : Float
zero_f = f32 0
