-- Offsets: what is added to a cell's u and v, two whole numbers of either sign. The named ones, the four of the square lattice, and the place
-- that each offset within 2 has among the 25 of a corner. Assumes nothing.
use Rattle.std.specs.Prelude.{Bool, ◌&&◌, List, [], ◌∷◌, ℕ, ◌+◌, ◌*◌, ◌/◌, ◌%◌, ℤ, pos, negsuc, nat_abs, ◌+ℤ◌, ◌-ℤ◌}
use Rattle.std.specs.Int.Signed.{le_z}
use Rattle.offsets.specs.Pair.{Offset}

-- the whole numbers from −2 to 2 (negsuc n is −(n + 1))
abbrev pub −2 : ℤ
−2 = negsuc 1

abbrev pub −1 : ℤ
−1 = negsuc 0

abbrev pub ±0 : ℤ
±0 = pos 0

abbrev pub +1 : ℤ
+1 = pos 1

abbrev pub +2 : ℤ
+2 = pos 2

-- the pair (du, dv)
abbrev pub offset : ℤ → ℤ → Offset
offset a b = record { du = a; dv = b }

-- ---- the named ones

-- to the cell itself
abbrev pub own : Offset
own = offset ±0 ±0

abbrev pub next_u : Offset
next_u = offset +1 ±0

abbrev pub prev_u : Offset
prev_u = offset −1 ±0

abbrev pub next_v : Offset
next_v = offset ±0 +1

abbrev pub prev_v : Offset
prev_v = offset ±0 −1

abbrev pub prev_uv : Offset
prev_uv = offset −1 −1

-- "Two cells share an edge if they differ by one in u and agree in v, or the other way round": the offsets that lead over a shared edge, in the
-- order of square.rs, which positions for dropped points go by; patches and the peel do not depend on it
abbrev pub square_sides : List Offset
square_sides = next_u ∷ next_v ∷ prev_u ∷ prev_v ∷ []

-- ---- places: the 25 offsets within 2 each way, by du, then dv

-- z lies from −2 to 2
abbrev pub is_within2 : ℤ → Bool
is_within2 z = le_z −2 z && le_z z +2

-- "within 2" each way
abbrev pub is_near : Offset → Bool
is_near o = is_within2 o.du && is_within2 o.dv

-- a whole number from −2 on, plus 2
abbrev pub up_by2 : ℤ → ℕ
up_by2 z = nat_abs (z +ℤ +2)

-- the place of an offset: 5 * (du + 2) + (dv + 2)
abbrev pub place_of : Offset → ℕ
place_of o = 5 * up_by2 o.du + up_by2 o.dv

-- the offset at place d
abbrev pub offset_of : ℕ → Offset
offset_of d = offset (pos (d / 5) -ℤ +2) (pos (d % 5) -ℤ +2)

-- of a list
abbrev pub places : List Offset → List ℕ
places [] = []
places (o ∷ l) = place_of o ∷ places l
