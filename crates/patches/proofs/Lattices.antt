-- The lists of offsets that are in use, or will be: each offset is within 2, and with each stands its opposite. Assumes nothing.
use mathlib.Core.Path.{◌≡◌, refl, sym, ap, ◌∙◌}
use mathlib.Core.Bool.{Bool, true}
use mathlib.Core.List.{List, [], ◌∷◌}
use Prim.Native.Nat.{ℕ, ◌<◌}
use lib.ListN.{length, get_or}
use native.Mathlib.Omega.{arith}
use Rattle.std.proofs.lemmas.List.{get_or_default}
use Rattle.folds.specs.Below.{some, every}
use Rattle.folds.proofs.Below.{every-at}
use Rattle.offsets.specs.declared.Offset.{Offset}
use Rattle.offsets.specs.Offsets.{−1, +1, offset, own, next_u, prev_u, next_v, prev_v, square_sides, is_near, place_of, places}
use Rattle.offsets.proofs.Places.{place-below, places-long, places-at}
use Rattle.patches.specs.Reach.{paired}
use Rattle.patches.specs.Search.{AreNear, NearPlaces}

-- each is within 2
abbrev are_near : List Offset → Bool
are_near sides = every (λ (i : ℕ). is_near (get_or sides i own)) (length sides)

near-by : (sides : List Offset) → are_near sides ≡ true → AreNear sides
near-by sides e i h = every-at (λ (i : ℕ). is_near (get_or sides i own)) (length sides) e i h

-- so that each has one of the 25 places
pub near-places : (sides : List Offset) → AreNear sides → NearPlaces (places sides)
near-places sides near i h =
    let l : i < length sides = omega (arith, places-long sides) in
    rw (places-at sides i l) (place-below (get_or sides i own) (near i l))

-- the offset that a loop over a list is at, and its place
module _ (sides : List Offset) (i : ℕ) (o : Offset) (h : i < length sides) (e : o ≡ get_or sides i o) where
  pub item-is : o ≡ get_or sides i own
  item-is = e ∙ get_or_default sides i o own h

  pub item-place : get_or (places sides) i 0 ≡ place_of o
  item-place = places-at sides i h ∙ ap place_of (sym item-is)

-- ---- the square lattice

pub square-near : AreNear square_sides
unfolding every
square-near = near-by square_sides refl

pub square-places : (sides : List ℕ) → sides ≡ places square_sides → NearPlaces sides
square-places sides e = rw e (near-places square_sides square-near)

pub square-paired : paired (places square_sides) ≡ true
unfolding paired every some
square-paired = refl

-- ---- the honeycomb, in the order of hex.rs

abbrev pub hex_sides : List Offset
hex_sides = next_u ∷ offset +1 −1 ∷ prev_v ∷ prev_u ∷ offset −1 +1 ∷ next_v ∷ []

hex-places : NearPlaces (places hex_sides)
unfolding every
hex-places = near-places hex_sides (near-by hex_sides refl)

hex-paired : paired (places hex_sides) ≡ true
unfolding paired every some
hex-paired = refl
