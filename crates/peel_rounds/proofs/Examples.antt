-- The bound at two points side by side, and for each of its conditions the smallest case that fails without it; a row of four. By computation.
-- Assumes nothing.
use mathlib.Core.Path.{◌≡◌, refl, ap, sym, ◌∙◌}
use mathlib.Core.Bool.{Bool, true, false, cond, not, ◌||◌, true≢false}
use mathlib.Core.List.{List, [], ◌∷◌}
use Prim.Native.Nat.{ℕ, ◌+◌, ◌-◌, ◌*◌, ◌/◌, ◌%◌, ◌≤◌, ◌<◌}
use native.Mathlib.Omega.{arith}
use borrow.Author.Tests.{eq-eqb, eqb-true, lt-ltb}
use lib.Dec.{eqb, ltb}
use lib.Ieee.{nan}
use lib.ListN.{length, get_or}
use Rattle.folds.specs.Below.{some, every, tally, first, first_in}
use Rattle.folds.proofs.Below.{every-at}
use Rattle.folds.specs.Lists.{up_from, list_of}
use Rattle.folds.specs.Column.{column}
use Rattle.offsets.specs.Offsets.{square_sides, places}
use Rattle.view.specs.View.{View}
use Rattle.patches.specs.Reach.{paired}
use Rattle.patches.proofs.Lattices.{square-places, square-paired}
use Rattle.peel.specs.Peel.{live_sides, leaf, gone_after, rounds_in, peeled_in, peeled_of}
use Rattle.peel_rounds.specs.Rounds.{none_twice, Neighbours, left_count}
use Rattle.peel_rounds.proofs.Bound.{rounds-bound}
use Rattle.peel_rounds.proofs.Lattices.{square-once}

-- n points, each with an index of its own, with this table of neighbours
abbrev seen : ℕ → (ℕ → ℕ) → View
seen n near = record { count = n; near = near; row = λ k. 0; column = λ k. 0; by_idx = λ k. k; x = λ k. nan; y = λ k. nan }

-- the rounds, and how many points were left
abbrev shown : View → List ℕ → List ℕ → List ℕ → List ℕ
shown w sides dropped weak = (peeled_of w sides dropped weak).rounds ∷ left_count w dropped ∷ []

-- ---- the four conditions, as tests of all ranks

abbrev leads_back : View → ℕ → ℕ → Bool
leads_back w k d = not (ltb (w.near (25 * k + d)) w.count) || eqb (w.near (25 * w.near (25 * k + d) + (24 - d))) k

abbrev mirrors : View → Bool
mirrors w = every (λ (k : ℕ). every (leads_back w k) 25) w.count

abbrev leads_away : View → List ℕ → Bool
leads_away w sides = every (λ (k : ℕ). every (λ (i : ℕ). not (eqb (w.near (25 * k + get_or sides i 0)) k)) (length sides)) w.count

abbrev tests : View → List ℕ → List Bool
tests w sides = mirrors w ∷ paired sides ∷ none_twice sides ∷ leads_away w sides ∷ []

-- two points, both weak: the rounds, and which conditions hold
abbrev Case : View → List ℕ → ℕ → List Bool → Type 0
Case w sides rounds conditions = (shown w sides [] (1 ∷ 1 ∷ []) ≡ rounds ∷ 2 ∷ []) × (tests w sides ≡ conditions)

-- the tests are the conditions
neighbours-by : (w : View) (sides : List ℕ) → mirrors w ≡ true → paired sides ≡ true → none_twice sides ≡ true → leads_away w sides ≡ true → Neighbours w sides
neighbours-by w sides m p o a = record {
  mirrored = record { back = back };
  opposites = p;
  once = o;
  apart = λ k i h l e. true≢false (sym (every-at _ (length sides) (every-at _ w.count a k h) i l) ∙ ap not (eq-eqb (w.near (25 * k + get_or sides i 0)) k e));
}
  where
    back : (k j d : ℕ) → k < w.count → j < w.count → d < 25 → w.near (25 * k + d) ≡ j → w.near (25 * j + (24 - d)) ≡ k
    back k j d h g l e =
        eqb-true (w.near (25 * j + (24 - d))) k
        (rw (lt-ltb j w.count g) at (rw e at (every-at (leads_back w k) 25 (every-at _ w.count m k h) d l)))

-- ---- two cells side by side: at place 17 of the first stands the second, at place 7 of the second the first

abbrev pair : View
pair = seen 2 (λ i. cond (eqb i 17) 1 (cond (eqb i 32) 0 9))

-- they go in one round
pair-shown : Case pair (places square_sides) 1 (true ∷ true ∷ true ∷ true ∷ [])
unfolding first first_in list_of up_from some every tally column live_sides leaf gone_after rounds_in peeled_in paired none_twice
pair-shown = (refl, refl)

-- what the theorems say of it
pair-neighbours : Neighbours pair (places square_sides)
unfolding every
pair-neighbours = neighbours-by pair (places square_sides) refl square-paired square-once refl

pub pair-bound : (weak : List ℕ) → (peeled_of pair (places square_sides) [] weak).rounds + 1 ≤ 2
unfolding tally
pair-bound weak = rounds-bound pair (places square_sides) [] weak (λ k h. h) (square-places (places square_sides) refl) pair-neighbours (omega arith)

-- ---- where a condition fails: two rounds

-- the first is twice beside the second, and the second is nowhere beside the first
unmirrored : Case (seen 2 (λ i. cond (eqb i 32) 0 (cond (eqb i 42) 0 9))) (7 ∷ 17 ∷ []) 2 (false ∷ true ∷ true ∷ true ∷ [])
unfolding first first_in list_of up_from some every tally column live_sides leaf gone_after rounds_in peeled_in paired none_twice
unmirrored = (refl, refl)

-- places 7 and 8 alone are sides, and not their opposites 17 and 16
unpaired : Case (seen 2 (λ i. cond (eqb i 16) 1 (cond (eqb i 17) 1 (cond (eqb i 32) 0 (cond (eqb i 33) 0 9))))) (7 ∷ 8 ∷ []) 2 (true ∷ false ∷ true ∷ true ∷ [])
unfolding first first_in list_of up_from some every tally column live_sides leaf gone_after rounds_in peeled_in paired none_twice
unpaired = (refl, refl)

-- place 17 stands twice in the list
twice : Case pair (17 ∷ 17 ∷ 7 ∷ []) 2 (true ∷ true ∷ false ∷ true ∷ [])
unfolding first first_in list_of up_from some every tally column live_sides leaf gone_after rounds_in peeled_in paired none_twice
twice = (refl, refl)

-- at place 12 the first is beside itself
itself : Case (seen 2 (λ i. cond (eqb i 12) 0 (cond (eqb i 17) 1 (cond (eqb i 32) 0 9)))) (7 ∷ 12 ∷ 17 ∷ []) 2 (true ∷ true ∷ true ∷ false ∷ [])
unfolding first first_in list_of up_from some every tally column live_sides leaf gone_after rounds_in peeled_in paired none_twice
itself = (refl, refl)

-- ---- fewer than two points are left: one alone, and one of two

single : (shown (seen 1 (λ i. 9)) (places square_sides) [] (1 ∷ []) ≡ 1 ∷ 1 ∷ []) × (shown pair (places square_sides) (1 ∷ []) (1 ∷ 1 ∷ []) ≡ 1 ∷ 1 ∷ [])
unfolding first first_in list_of up_from some tally column live_sides leaf gone_after rounds_in peeled_in
single = (refl, refl)

-- ---- a row of four: with a strong last point one goes in each round, three in all; where all are weak they go from both ends

abbrev row_of_four : View
row_of_four = seen 4 (λ i. cond (eqb i 7) 9 (cond (eqb (i % 25) 7) (i / 25 - 1) (cond (eqb (i % 25) 17) (i / 25 + 1) 9)))

in_row : (shown row_of_four (places square_sides) [] (1 ∷ 1 ∷ 1 ∷ 0 ∷ []) ≡ 3 ∷ 4 ∷ []) × (shown row_of_four (places square_sides) [] (1 ∷ 1 ∷ 1 ∷ 1 ∷ []) ≡ 2 ∷ 4 ∷ [])
unfolding first first_in list_of up_from some tally column live_sides leaf gone_after rounds_in peeled_in
in_row = (refl, refl)
