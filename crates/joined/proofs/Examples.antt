-- Small halves joined, and moves at the limits. Assumes nothing.
use Rattle.std.specs.Prelude.{◌≡◌, true, false, List, [], ◌∷◌, ℕ, ◌+◌, ◌-◌, ◌^◌, ℤ, pos, negsuc, Float}
use Rattle.std.specs.Float.{nan}
use Rattle.std.specs.Float.Ieee.{of_bits, to_bits, add}
use Rattle.std.proofs.Common.{refl}
use Rattle.folds.specs.Arith.{f32}
use Rattle.cells.specs.Points.{Point}
use Rattle.joined.specs.declared.moves.Move.{Move}
use Rattle.joined.specs.Joined.{joined_list, high_index, bad_move}

abbrev by : ℤ → ℤ → Float → Float → Move
by du dv dx dy = record { du = du; dv = dv; dx = dx; dy = dy }

-- a point in the cell (u, v), with these bits of x
abbrev at : ℕ → ℕ → ℕ → ℕ → Point
at u v index x = record { u = u; v = v; index = index; x = x; y = 0; strength = 7 }

-- the left points (0, 0) and (1, 0)
abbrev lefts : List Point
lefts = at 0 0 5 0 ∷ at 1 0 6 0 ∷ []

-- the right points (0, 0) at x = 1 and (1, 0) at x = −0, moved by (1, −2): they come to (1, −2) and (2, −2), at 1.5 and 0.5
pub both-kept : joined_list (by (pos 1) (negsuc 1) (f32 0x3F00_0000) (f32 0)) lefts (at 0 0 5 0x3F80_0000 ∷ at 1 0 6 0x8000_0000 ∷ [])
    ≡ at 0 0 5 0 ∷ at 1 0 6 0 ∷ at 1 (2 ^ 32 - 2) (2 ^ 31 + 5) 0x3FC0_0000 ∷ at 2 (2 ^ 32 - 2) (2 ^ 31 + 6) 0x3F00_0000 ∷ []
unfolding joined_list of_bits to_bits add
both-kept = refl

-- moved by (1, 0) the first comes to the cell of the left (1, 0), and is gone; the other comes to (2, 0), and its −0 is 0 with 0 added
pub left-taken : joined_list (by (pos 1) (pos 0) (f32 0) (f32 0)) lefts (at 0 0 5 0x3F80_0000 ∷ at 1 0 6 0x8000_0000 ∷ []) ≡ at 0 0 5 0 ∷ at 1 0 6 0 ∷ at 2 0 (2 ^ 31 + 6) 0 ∷ []
unfolding joined_list of_bits to_bits add
left-taken = refl

-- the limits of a move, and of an index
pub limits-of-a-move : (bad_move (by (pos 16000) (negsuc 15999) (f32 0x4680_0000) (f32 0xC680_0000)) ≡ false) × (bad_move (by (pos 16001) (pos 0) (f32 0) (f32 0)) ≡ true)
    × (bad_move (by (pos 0) (negsuc 16000) (f32 0) (f32 0)) ≡ true) × (bad_move (by (pos 0) (pos 0) (f32 0x4680_0001) (f32 0)) ≡ true) × (bad_move (by (pos 0) (pos 0) (f32 0) nan) ≡ true)
unfolding of_bits
limits-of-a-move = (refl, refl, refl, refl, refl)

pub limit-of-an-index : (high_index (at 0 0 (2 ^ 31 - 1) 0) ≡ false) × (high_index (at 0 0 (2 ^ 31) 0) ≡ true)
limit-of-an-index = (refl, refl)
