-- The square list of offsets, and that of the honeycomb: none stands twice, and none leads to the cell itself. Assumes nothing.
use mathlib.Core.Path.{◌≡◌, refl, sym, ap, ◌∙◌}
use mathlib.Core.Bool.{Bool, true, not, true≢false}
use mathlib.Core.List.{List}
use Prim.Native.Nat.{ℕ, ◌<◌}
use borrow.Author.Tests.{eq-eqb}
use lib.Dec.{eqb}
use lib.ListN.{length, get_or}
use Rattle.folds.specs.Below.{every}
use Rattle.folds.proofs.Below.{every-at}
use Rattle.offsets.specs.Offsets.{own, square_sides, place_of, places}
use Rattle.patches.proofs.Lattices.{hex_sides}
use Rattle.peel_rounds.specs.Rounds.{none_twice}

-- none is the place of the cell itself
abbrev lead_away : List ℕ → Bool
lead_away sides = every (λ (i : ℕ). not (eqb (get_or sides i 0) (place_of own))) (length sides)

away-at : (sides : List ℕ) → lead_away sides ≡ true → (i : ℕ) → i < length sides → get_or sides i 0 ≡ place_of own → ⊥
away-at sides e i h q = true≢false (sym (every-at (λ (i : ℕ). not (eqb (get_or sides i 0) (place_of own))) (length sides) e i h) ∙ ap not (eq-eqb (get_or sides i 0) (place_of own) q))

-- ---- the square lattice

pub square-once : none_twice (places square_sides) ≡ true
unfolding none_twice every
square-once = refl

pub square-away : (i : ℕ) → i < length (places square_sides) → get_or (places square_sides) i 0 ≡ place_of own → ⊥
unfolding every
square-away = away-at (places square_sides) refl

-- ---- the honeycomb

hex-once : none_twice (places hex_sides) ≡ true
unfolding none_twice every
hex-once = refl

hex-away : lead_away (places hex_sides) ≡ true
unfolding every
hex-away = refl
