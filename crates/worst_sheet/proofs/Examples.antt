-- What some arguments ask for, and the bytes of the smallest sheet. Assumes nothing.
use Rattle.std.proofs.Common.{◌≡◌, [], ◌∷◌, ◌++◌, refl}
use lib.Ieee.{to_bits, of_int}
use Rattle.text.specs.Text.{bytes}
use Rattle.worst_sheet.specs.Worst.{worst_file, asked}

-- "n from 2 to 2,304"
accepted : asked (bytes "2") ∷ asked (bytes "2304") ∷ [] ≡ 2 ∷ 2304 ∷ []
unfolding asked
accepted = refl

-- a number that is too small or too large, a leading zero, a sign, another character, and nothing ask for none
others : asked (bytes "0") ∷ asked (bytes "1") ∷ asked (bytes "2305") ∷ asked (bytes "02") ∷ asked (bytes "+2") ∷ asked (bytes "2x") ∷ asked (bytes "") ∷ [] ≡ 2305 ∷ 2305 ∷ 2305 ∷ 2305 ∷ 2305 ∷ 2305 ∷ 2305 ∷ []
unfolding asked
others = refl

-- the settings; two points, with u, v, index, x and y; the fraction 2, the strengths 1 and 2
smallest : worst_file 2 ≡
    (1 ∷ 21 ∷ 0 ∷ [])
    ++ (0 ∷ 0 ∷ 0xE0 ∷ 0x40 ∷ 0x9A ∷ 0x99 ∷ 0x19 ∷ 0x3E ∷ 3 ∷ 0 ∷ 0xCD ∷ 0xCC ∷ 0x4C ∷ 0x3E ∷ 0 ∷ 0 ∷ 0 ∷ 0 ∷ 0 ∷ 1 ∷ 1 ∷ [])
    ++ (3 ∷ 40 ∷ 0 ∷ [])
    ++ (0 ∷ 0 ∷ 0 ∷ 0 ∷ 0 ∷ 0 ∷ 0 ∷ 0 ∷ 0 ∷ 0 ∷ 0 ∷ 0 ∷ 0 ∷ 0 ∷ 0 ∷ 0 ∷ 0 ∷ 0 ∷ 0 ∷ 0 ∷ [])
    ++ (1 ∷ 0 ∷ 0 ∷ 0 ∷ 0 ∷ 0 ∷ 0 ∷ 0 ∷ 1 ∷ 0 ∷ 0 ∷ 0 ∷ 0 ∷ 0 ∷ 0xE0 ∷ 0x40 ∷ 0 ∷ 0 ∷ 0 ∷ 0 ∷ [])
    ++ (4 ∷ 12 ∷ 0 ∷ [])
    ++ (0 ∷ 0 ∷ 0 ∷ 0x40 ∷ 0 ∷ 0 ∷ 0x80 ∷ 0x3F ∷ 0 ∷ 0 ∷ 0 ∷ 0x40 ∷ [])
unfolding worst_file to_bits of_int
smallest = refl
