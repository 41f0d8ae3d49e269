-- The theorems at the square list of offsets and at the honeycomb's, and for each condition the smallest case that fails without it; and the rule
-- itself with numbers. By computation. Assumes nothing.
use Rattle.std.specs.List.{list_any}
use mathlib.Core.Path.{◌≡◌, refl, sym, ap, ◌∙◌}
use mathlib.Core.Bool.{Bool, true, false, cond, not}
use mathlib.Core.Logic.{◌⊎◌, inl, inr}
use mathlib.Core.List.{List, [], ◌∷◌}
use Prim.Native.Nat.{ℕ, zero, suc, ◌≤◌, ◌<◌}
use native.Mathlib.Omega.{arith}
use lib.IntN.{pos, negsuc}
use lib.Dec.{eqb}
use lib.Ieee.{Float, lt, of_bits, of_int, add, mul, div}
use lib.ListN.{length}
use Rattle.folds.specs.Arith.{f32, zero_f, ◌⊕◌, ◌⊗◌, ◌⊘◌}
use Rattle.folds.specs.Below.{some, every, tally, sum_of}
use Rattle.folds.proofs.Below.{every-at}
use Rattle.float.specs.Constants.{half, four}
use Rattle.offsets.specs.declared.Offset.{Offset}
use Rattle.offsets.specs.Offsets.{−2, −1, ±0, +1, +2, offset, own, next_u, prev_u, next_v, prev_v, square_sides, is_near, place_of, places}
use Rattle.patches.specs.Reach.{paired}
use Rattle.patches.proofs.Lattices.{hex_sides}
use Rattle.peel_rounds.specs.Rounds.{none_twice}
use Rattle.peel_rounds.proofs.Lattices.{square-once}
use Rattle.predict.specs.Predict.{opposite, side_at, midpoint, is_pair, pair_count, mean_of, prediction}
use Rattle.predict.specs.Theorems.{Opposed, both_there, NoPairExactly, WithPairs, Met}
use Rattle.predict.specs.Predict.{Prediction}
use Rattle.std.specs.Prelude.{None, Some}
use Rattle.predict.proofs.MinusZero.{minus-zero}
use Rattle.predict.proofs.Theorems.{square-opposed, half-of-offsets, no-pair-exactly, with-pairs, depends-on-kept}

-- ---- what is kept

-- the points at these offsets, and those at all offsets but the cell's own
abbrev kept : List Offset → Offset → Bool
kept l o = list_any (λ (p : Offset). eqb (place_of p) (place_of o)) l

abbrev all_round : Offset → Bool
all_round o = not (eqb (place_of o) (place_of own))

-- ---- the conditions, as tests

abbrev are_near : List Offset → Bool
are_near sides = every (λ (i : ℕ). is_near (side_at sides i)) (length sides)

abbrev tests : List Offset → (Offset → Bool) → List Bool
tests sides there = are_near sides ∷ paired (places sides) ∷ none_twice (places sides) ∷ not (there own) ∷ []

opposed-by : (sides : List Offset) → are_near sides ≡ true → paired (places sides) ≡ true → Opposed sides
opposed-by sides n p = record { near = every-at (λ (i : ℕ). is_near (side_at sides i)) (length sides) n; opposites = p }

hex-opposed : Opposed hex_sides
unfolding every some paired
hex-opposed = opposed-by hex_sides refl refl

-- ---- half of the offsets: two pairs of four, three of six

pub square-half : (there : Offset → Bool) → there own ≡ false → pair_count square_sides there ≤ 2
square-half there e = omega (arith, half-of-offsets square_sides square-opposed square-once there e)

pub hex-half : (there : Offset → Bool) → there own ≡ false → pair_count hex_sides there ≤ 3
unfolding every none_twice
hex-half there e = omega (arith, half-of-offsets hex_sides hex-opposed refl there e)

-- so many there are where all points round the cell are kept
reached : (pair_count square_sides all_round ≡ 2) × (pair_count hex_sides all_round ≡ 3)
unfolding pair_count tally
reached = (refl, refl)

-- where a condition fails, more than half: one of one, or two of three
abbrev Case : List Offset → (Offset → Bool) → ℕ → List Bool → Type 0
Case sides there pairs conditions = (pair_count sides there ≡ pairs) × (tests sides there ≡ conditions)

-- (2,3) is not within 2, and its place, 25, is read as having the opposite 0
too_far : Case (offset +2 (pos 3) ∷ offset −2 −2 ∷ offset +2 +2 ∷ []) all_round 2 (false ∷ true ∷ true ∷ true ∷ [])
unfolding pair_count tally every some paired none_twice
too_far = (refl, refl)

-- an offset without its opposite
unpaired : Case (next_u ∷ []) all_round 1 (true ∷ false ∷ true ∷ true ∷ [])
unfolding pair_count tally every some paired none_twice
unpaired = (refl, refl)

-- one stands twice
twice : Case (next_u ∷ next_u ∷ prev_u ∷ []) all_round 2 (true ∷ true ∷ false ∷ true ∷ [])
unfolding pair_count tally every some paired none_twice
twice = (refl, refl)

-- the cell's own point is kept, and is its own opposite
itself : Case (own ∷ []) (kept (own ∷ [])) 1 (true ∷ true ∷ true ∷ false ∷ [])
unfolding pair_count tally every some paired none_twice
itself = (refl, refl)

-- ---- no pair exactly

pub square-no-pair : (there : Offset → Bool) (x y : Offset → Float) → NoPairExactly square_sides there x y
square-no-pair = no-pair-exactly square_sides square-opposed

pub hex-no-pair : (there : Offset → Bool) (x y : Offset → Float) → NoPairExactly hex_sides there x y
hex-no-pair = no-pair-exactly hex_sides hex-opposed

-- no pair is found though both points of one are kept: the list has only the backward offset, or one that is not within 2 and has the place of
-- the cell itself
abbrev Missed : List Offset → List Bool → Type 0
Missed sides conditions = ((x y : Offset → Float) → prediction sides (λ o. true) x y ≡ None) × (both_there sides (λ o. true) 0 ≡ true) × (are_near sides ∷ paired (places sides) ∷ [] ≡ conditions)

backward-alone : Missed (prev_u ∷ []) (true ∷ false ∷ [])
unfolding prediction pair_count tally every some paired
backward-alone = ((λ x y. refl), refl, refl)

beyond : Missed (offset ±0 (negsuc 3) ∷ []) (false ∷ true ∷ [])
unfolding prediction pair_count tally every some paired
beyond = ((λ x y. refl), refl, refl)

-- ---- the rule with numbers

-- the f32 with these patterns at the offsets of a list, one after the other
abbrev reads : List Offset → List ℕ → Offset → Float
reads [] l o = f32 0
reads (s ∷ sides) [] o = f32 0
reads (s ∷ sides) (b ∷ l) o = cond (eqb (place_of s) (place_of o)) (f32 b) (reads sides l o)

-- the neighbours over shared edges, pair by pair
abbrev four_round : List Offset
four_round = next_u ∷ prev_u ∷ next_v ∷ prev_v ∷ []

abbrev row : List Offset
row = next_u ∷ prev_u ∷ []

abbrev answer : ℕ → ℕ → ℕ → Prediction
answer n x y = Some (record { x = f32 x; y = f32 y; n_axis_pairs = n })

-- what is predicted where the points at these offsets are kept, from the x and y of the four
abbrev predicted : List Offset → List ℕ → List ℕ → Prediction
predicted l x y = prediction square_sides (kept l) (reads four_round x) (reads four_round y)

-- one pair: x is half way from 1 to 3, and y from 4 to 10
one-pair : predicted row (0x4040_0000 ∷ 0x3f80_0000 ∷ []) (0x4080_0000 ∷ 0x4120_0000 ∷ []) ≡ answer 1 0x4000_0000 0x40e0_0000
unfolding prediction pair_count mean_of tally sum_of add mul div of_int of_bits
one-pair = refl

-- two: x is 2 by the first pair and 6 by the second, y is 7 and 1
abbrev two_x : List ℕ
two_x = 0x4040_0000 ∷ 0x3f80_0000 ∷ 0x40e0_0000 ∷ 0x40a0_0000 ∷ []

abbrev two_y : List ℕ
two_y = 0x4080_0000 ∷ 0x4120_0000 ∷ 0x3f80_0000 ∷ 0x3f80_0000 ∷ []

two-pairs : predicted four_round two_x two_y ≡ answer 2 0x4080_0000 0x4080_0000
unfolding prediction pair_count mean_of tally sum_of add mul div of_int of_bits
two-pairs = refl

two-found : WithPairs square_sides (kept four_round) (reads four_round two_x) (reads four_round two_y) (record { x = f32 0x4080_0000; y = f32 0x4080_0000; n_axis_pairs = 2 })
two-found = with-pairs square_sides (kept four_round) (reads four_round two_x) (reads four_round two_y) _ two-pairs

-- what it depends on: in a row, the x of two neighbours
row-x : (x₁ x₂ : Offset → Float) → x₁ next_u ≡ x₂ next_u → x₁ prev_u ≡ x₂ prev_u → (o : Offset) → Met row o → x₁ o ≡ x₂ o
row-x x₁ x₂ a b o m = go m.0 m.1 m.2
  where
    next : o ≡ next_u → x₁ o ≡ x₂ o
    next e = ap x₁ e ∙ a ∙ ap x₂ (sym e)

    prev : o ≡ prev_u → x₁ o ≡ x₂ o
    prev e = ap x₁ e ∙ b ∙ ap x₂ (sym e)

    go : (i : ℕ) → i < 2 → (o ≡ side_at row i) ⊎ (o ≡ opposite (side_at row i)) → x₁ o ≡ x₂ o
    go zero h (inl e) = next e
    go zero h (inr e) = prev e
    go (suc zero) h (inl e) = prev e
    go (suc zero) h (inr e) = next e
    go (suc (suc i)) h e = absurd (omega arith)

pub row-alone : (there : Offset → Bool) (x₁ x₂ y : Offset → Float) → x₁ next_u ≡ x₂ next_u → x₁ prev_u ≡ x₂ prev_u → prediction row there x₁ y ≡ prediction row there x₂ y
row-alone there x₁ x₂ y a b = depends-on-kept row there there x₁ x₂ y y (record { there = λ o m. refl; x = λ o m t. row-x x₁ x₂ a b o m; y = λ o m t. refl })

-- the x of a neighbour that is not kept is not read; 5 for 1 at one that is kept makes x 4
unread : predicted row two_x [] ≡ predicted row (0x4040_0000 ∷ 0x3f80_0000 ∷ []) []
unfolding prediction pair_count mean_of tally sum_of add mul div of_int of_bits
unread = refl

read : (predicted row (0x4040_0000 ∷ 0x3f80_0000 ∷ []) [] ≡ answer 1 0x4000_0000 0) × (predicted row (0x4040_0000 ∷ 0x40a0_0000 ∷ []) [] ≡ answer 1 0x4080_0000 0)
unfolding prediction pair_count mean_of tally sum_of add mul div of_int of_bits
read = (refl, refl)

-- "the sums begin at +0, and +0 plus −0 is +0": half way between −0 and −0 is −0, and the position has +0
from-plus-zero : (half ⊗ (f32 0x8000_0000 ⊕ f32 0x8000_0000) ≡ f32 0x8000_0000) × (predicted row (0x8000_0000 ∷ 0x8000_0000 ∷ []) [] ≡ answer 1 0 0)
unfolding prediction pair_count mean_of tally sum_of add mul div of_int of_bits
from-plus-zero = (refl, refl)

-- "A −0 comes out only where the division underflows": the sum is the negative number nearest to 0, and its half −0
underflow : predicted four_round (0x8000_0001 ∷ 0x8000_0001 ∷ []) [] ≡ answer 2 0x8000_0000 0
unfolding prediction pair_count mean_of tally sum_of add mul div of_int of_bits
underflow = refl

underflow-below : lt (sum_of (is_pair square_sides (kept four_round)) (midpoint square_sides (reads four_round (0x8000_0001 ∷ 0x8000_0001 ∷ []))) 4) zero_f ≡ true
underflow-below = (minus-zero square_sides (kept four_round) (reads four_round (0x8000_0001 ∷ 0x8000_0001 ∷ [])) (reads four_round []) _ (omega arith) underflow).0 refl

-- "No fill is NaN or infinite" needs its bound: two neighbours at the largest f32
too_large : predicted row (0x7f7f_ffff ∷ 0x7f7f_ffff ∷ []) [] ≡ answer 1 0x7f80_0000 0
unfolding prediction pair_count mean_of tally sum_of add mul div of_int of_bits
too_large = refl

-- the four numbers 1, 1, 1 and 2 ^ 24, added and divided by 4, give another last bit
not-by-four : (predicted four_round (0x3f80_0000 ∷ 0x3f80_0000 ∷ 0x3f80_0000 ∷ 0x4b80_0000 ∷ []) [] ≡ answer 2 0x4a80_0001 0)
    × ((((f32 0x3f80_0000 ⊕ f32 0x3f80_0000) ⊕ f32 0x3f80_0000) ⊕ f32 0x4b80_0000) ⊘ four ≡ f32 0x4a80_0002)
unfolding prediction pair_count mean_of tally sum_of add mul div of_int of_bits
not-by-four = (refl, refl)

-- the order of the offsets counts: three pairs with x 1 by (1,0) and (1,−1) and 2 ^ 24 by (0,1), added in the order of hex.rs, and with (0,1)
-- before (1,−1)
abbrev hex_x : Offset → Float
hex_x = reads hex_sides (0x3f80_0000 ∷ 0x3f80_0000 ∷ 0x4b80_0000 ∷ 0x3f80_0000 ∷ 0x3f80_0000 ∷ 0x4b80_0000 ∷ [])

abbrev other_order : List Offset
other_order = next_u ∷ prev_u ∷ next_v ∷ prev_v ∷ offset −1 +1 ∷ offset +1 −1 ∷ []

hex-by-order : (prediction hex_sides all_round hex_x (reads [] []) ≡ answer 3 0x4aaa_aaac 0) × (prediction other_order all_round hex_x (reads [] []) ≡ answer 3 0x4aaa_aaab 0)
unfolding prediction pair_count mean_of tally sum_of add mul div of_int of_bits
hex-by-order = (refl, refl)
