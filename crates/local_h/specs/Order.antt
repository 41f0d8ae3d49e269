-- "the 24 cells within 2, nearest first, then smaller dv, then smaller du": their offsets (du, dv) in this order, and the test that a table
-- has them so. Assumes nothing.
use Rattle.std.specs.Prelude.{Bool, not, ◌&&◌, ◌||◌, List, [], ◌∷◌, ℕ, ◌+◌, ◌*◌, eqb, ltb, nat_abs, length, get_or}
use Rattle.std.specs.Int.Signed.{lt_z}
use Rattle.folds.specs.Below.{every, tally}
use Rattle.folds.specs.Marked.{bit}
use Rattle.offsets.specs.declared.Offset.{Offset}
use Rattle.offsets.specs.Offsets.{−2, −1, ±0, +1, +2, offset, own, is_near, offset_of}
use Rattle.cells.specs.Cell.{agree}

-- the 24 offsets, in that order
abbrev pub nearest_first : List Offset
nearest_first =
    offset ±0 −1
    ∷ offset −1 ±0
    ∷ offset +1 ±0
    ∷ offset ±0 +1
    ∷ offset −1 −1
    ∷ offset +1 −1
    ∷ offset −1 +1
    ∷ offset +1 +1
    ∷ offset ±0 −2
    ∷ offset −2 ±0
    ∷ offset +2 ±0
    ∷ offset ±0 +2
    ∷ offset −1 −2
    ∷ offset +1 −2
    ∷ offset −2 −1
    ∷ offset +2 −1
    ∷ offset −2 +1
    ∷ offset +2 +1
    ∷ offset −1 +2
    ∷ offset +1 +2
    ∷ offset −2 −2
    ∷ offset +2 −2
    ∷ offset −2 +2
    ∷ offset +2 +2
    ∷ []

-- the offset at place p of the order; past the last, the corner's own
abbrev pub offset_at : ℕ → Offset
offset_at p = get_or nearest_first p own

-- ---- the test of such a table

-- a and b are one pair
abbrev pub same : Offset → Offset → Bool
same a b = agree a.du b.du && agree a.dv b.dv

-- the square of an offset's length; lengths are ordered as their squares are
abbrev pub square_of : Offset → ℕ
square_of o = nat_abs o.du * nat_abs o.du + nat_abs o.dv * nat_abs o.dv

-- "nearest first, then smaller dv, then smaller du": a comes before b
abbrev pub comes_first : Offset → Offset → Bool
comes_first a b =
    ltb (square_of a) (square_of b)
    || (eqb (square_of a) (square_of b) && (lt_z a.dv b.dv || (agree a.dv b.dv && lt_z a.du b.du)))

-- the entries stand in that order, each before all after it
unfoldable pub is_ordered : List Offset → Bool
unfolding every
is_ordered l = every (λ (q : ℕ). every (λ (p : ℕ). comes_first (get_or l p own) (get_or l q own)) q) (length l)

-- "the 24 cells within 2": each entry leads to one of them ..
abbrev pub is_around : Offset → Bool
is_around o = is_near o && not (same o own)

-- all entries of a table do
unfoldable pub are_around : List Offset → Bool
unfolding every
are_around l = every (λ (p : ℕ). is_around (get_or l p own)) (length l)

-- .. and of all offsets within 2 each stands once, but the corner's own
unfoldable pub each_once : List Offset → Bool
unfolding every tally
each_once l = every (λ (d : ℕ). eqb (tally (λ (p : ℕ). same (get_or l p own) (offset_of d)) (length l)) (bit (is_around (offset_of d)))) 25

-- "the 24 cells within 2, nearest first, then smaller dv, then smaller du"
unfoldable pub is_nearest_first : List Offset → Bool
unfolding is_ordered are_around each_once
is_nearest_first l = is_ordered l && (are_around l && each_once l)
