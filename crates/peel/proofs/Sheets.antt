-- Small sheets by computation, and for each condition of a theorem the smallest case that fails without it. Assumes nothing.
use Rattle.std.specs.List.{fold}
use mathlib.Core.Path.{◌≡◌, refl}
use mathlib.Core.Bool.{cond}
use mathlib.Core.List.{List, [], ◌∷◌}
use Prim.Native.Nat.{ℕ}
use lib.Dec.{eqb}
use lib.Ieee.{nan}
use lib.ListN.{take}
use Rattle.folds.specs.Below.{some, tally, first, first_in}
use Rattle.folds.specs.Lists.{up_from, list_of}
use Rattle.folds.specs.Column.{column}
use Rattle.offsets.specs.Offsets.{square_sides, places}
use Rattle.view.specs.View.{View}
use Rattle.patches.proofs.Lattices.{hex_sides}
use Rattle.peel.specs.Peel.{live_sides, leaf, gone_after, rounds_in, peeled_in, peeled_of}
use Rattle.peel.specs.Theorems.{left_sides, round_by, gone_by, peeled_by}
use Rattle.peel.specs.declared.Peeled.{Peeled}
use Rattle.patches.proofs.InOrder.{sheet}

-- the rounds and the marks of the first n ranks
abbrev shown : ℕ → Peeled → List ℕ
shown n p = p.rounds ∷ take n p.marks

-- cells (0, 0), (1, 0), (2, 0)
abbrev row : View
row = sheet (2 ∷ 3 ∷ 4 ∷ []) (2 ∷ 2 ∷ 2 ∷ []) (0 ∷ 1 ∷ 2 ∷ [])

-- all weak but the last: one goes after the other, from the free end; all weak: both ends go in one round, then the middle; the middle weak: it
-- stays; none weak; the middle dropped: the others go, and it gets no mark
row-peeled : (shown 3 (peeled_of row (places square_sides) [] (1 ∷ 1 ∷ [])) ≡ 2 ∷ 1 ∷ 1 ∷ 0 ∷ [])
    × (shown 3 (peeled_of row (places square_sides) [] (1 ∷ 1 ∷ 1 ∷ [])) ≡ 2 ∷ 1 ∷ 1 ∷ 1 ∷ [])
    × (shown 3 (peeled_of row (places square_sides) [] (0 ∷ 1 ∷ 0 ∷ [])) ≡ 0 ∷ 0 ∷ 0 ∷ 0 ∷ [])
    × (shown 3 (peeled_of row (places square_sides) [] []) ≡ 0 ∷ 0 ∷ 0 ∷ 0 ∷ [])
    × (shown 3 (peeled_of row (places square_sides) (0 ∷ 1 ∷ []) (1 ∷ 1 ∷ 1 ∷ [])) ≡ 1 ∷ 1 ∷ 0 ∷ 1 ∷ [])
unfolding sheet first first_in list_of up_from some tally column live_sides leaf gone_after rounds_in peeled_in
row-peeled = (refl, refl, refl, refl, refl)

-- one weak point alone goes
alone : shown 1 (peeled_of (sheet (2 ∷ []) (2 ∷ []) (0 ∷ [])) (places square_sides) [] (1 ∷ [])) ≡ 1 ∷ 1 ∷ []
unfolding sheet first first_in list_of up_from some tally column live_sides leaf gone_after rounds_in peeled_in
alone = refl

-- cells (0, 0), (0, 1), (1, 0), (1, 1), all weak, stay, and each has two neighbours
block : (shown 4 (peeled_of (sheet (2 ∷ 2 ∷ 3 ∷ 3 ∷ []) (2 ∷ 3 ∷ 2 ∷ 3 ∷ []) (0 ∷ 1 ∷ 2 ∷ 3 ∷ [])) (places square_sides) [] (1 ∷ 1 ∷ 1 ∷ 1 ∷ [])) ≡ 0 ∷ 0 ∷ 0 ∷ 0 ∷ 0 ∷ [])
    × (left_sides (sheet (2 ∷ 2 ∷ 3 ∷ 3 ∷ []) (2 ∷ 3 ∷ 2 ∷ 3 ∷ []) (0 ∷ 1 ∷ 2 ∷ 3 ∷ [])) (places square_sides) [] [] 3 ≡ 2)
unfolding sheet first first_in list_of up_from some tally column live_sides leaf gone_after rounds_in peeled_in
block = (refl, refl)

-- index 2 in the middle of a row, between strong points, and at (9, 9) alone: it goes at both, and the row is in two pieces
split : shown 4 (peeled_of (sheet (2 ∷ 3 ∷ 4 ∷ 11 ∷ []) (2 ∷ 2 ∷ 2 ∷ 11 ∷ []) (0 ∷ 3 ∷ 2 ∷ 3 ∷ [])) (places square_sides) [] (0 ∷ 1 ∷ 0 ∷ 1 ∷ [])) ≡ 1 ∷ 0 ∷ 1 ∷ 0 ∷ 1 ∷ []
unfolding sheet first first_in list_of up_from some tally column live_sides leaf gone_after rounds_in peeled_in
split = refl

-- cells (0, 1), (1, 0), (1, 1), all weak: on the square lattice (0, 1) and (1, 0) are ends, on the honeycomb each has two neighbours
corner : (shown 3 (peeled_of (sheet (2 ∷ 3 ∷ 3 ∷ []) (3 ∷ 2 ∷ 3 ∷ []) (0 ∷ 1 ∷ 2 ∷ [])) (places square_sides) [] (1 ∷ 1 ∷ 1 ∷ [])) ≡ 2 ∷ 1 ∷ 1 ∷ 1 ∷ [])
    × (shown 3 (peeled_of (sheet (2 ∷ 3 ∷ 3 ∷ []) (3 ∷ 2 ∷ 3 ∷ []) (0 ∷ 1 ∷ 2 ∷ [])) (places hex_sides) [] (1 ∷ 1 ∷ 1 ∷ [])) ≡ 0 ∷ 0 ∷ 0 ∷ 0 ∷ [])
unfolding sheet first first_in list_of up_from some tally column live_sides leaf gone_after rounds_in peeled_in
corner = (refl, refl)

-- ---- where a condition fails

-- the place of the index is no rank: a weak point alone stays, and there is one round although nothing goes
no_place : shown 1 (peeled_of (sheet (2 ∷ []) (2 ∷ []) (5 ∷ [])) (places square_sides) [] (1 ∷ [])) ≡ 1 ∷ 0 ∷ []
unfolding sheet first first_in list_of up_from some tally column live_sides leaf gone_after rounds_in peeled_in
no_place = refl

-- one index at two cells apart, the first dropped and not weak, the second weak: both are marked
unlike : shown 2 (peeled_of (sheet (2 ∷ 7 ∷ []) (2 ∷ 7 ∷ []) (1 ∷ 1 ∷ [])) (places square_sides) (1 ∷ 0 ∷ []) (0 ∷ 1 ∷ [])) ≡ 1 ∷ 1 ∷ 1 ∷ []
unfolding sheet first first_in list_of up_from some tally column live_sides leaf gone_after rounds_in peeled_in
unlike = refl

-- two cells apart, each with its index's place at the other: both go in one round, and neither is the place of its own index
crossed : shown 2 (peeled_of (sheet (2 ∷ 7 ∷ []) (2 ∷ 7 ∷ []) (1 ∷ 0 ∷ [])) (places square_sides) [] (1 ∷ 1 ∷ [])) ≡ 1 ∷ 1 ∷ 1 ∷ []
unfolding sheet first first_in list_of up_from some tally column live_sides leaf gone_after rounds_in peeled_in
crossed = refl

-- two cells side by side: each round visits the second, the first, and the second again; each round visits the first alone
visited : (shown 2 (peeled_by (λ r. 1 ∷ 0 ∷ 1 ∷ []) (sheet (2 ∷ 3 ∷ []) (2 ∷ 2 ∷ []) (0 ∷ 1 ∷ [])) (places square_sides) [] (1 ∷ 1 ∷ [])) ≡ 1 ∷ 1 ∷ 1 ∷ [])
    × (shown 2 (peeled_by (λ r. 0 ∷ []) (sheet (2 ∷ 3 ∷ []) (2 ∷ 2 ∷ []) (0 ∷ 1 ∷ [])) (places square_sides) [] (1 ∷ 1 ∷ [])) ≡ 2 ∷ 1 ∷ 0 ∷ [])
unfolding sheet first first_in list_of up_from some tally column live_sides leaf round_by gone_by rounds_in peeled_in peeled_by
visited = (refl, refl)

-- a side that is none of the 25 places: two tables that differ after 25 entries alone
outside : (shown 1 (peeled_of (record { count = 1; near = λ i. 9; row = λ k. 0; column = λ k. 0; by_idx = λ k. k; x = λ k. nan; y = λ k. nan }) (25 ∷ 25 ∷ []) [] (1 ∷ [])) ≡ 1 ∷ 1 ∷ [])
    × (shown 1 (peeled_of (record { count = 1; near = λ i. cond (eqb i 25) 0 9; row = λ k. 0; column = λ k. 0; by_idx = λ k. k; x = λ k. nan; y = λ k. nan }) (25 ∷ 25 ∷ []) [] (1 ∷ [])) ≡ 0 ∷ 0 ∷ [])
unfolding first first_in list_of up_from some tally column live_sides leaf gone_after rounds_in peeled_in
outside = (refl, refl)
