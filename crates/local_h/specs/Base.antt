-- The base of a corner. "Three are taken; the fourth is the next that leaves the four not all on one lattice line." Assumes nothing.
use Rattle.std.specs.Prelude.{Bool, not, ◌&&◌, List, [], ◌∷◌, Option, ℕ, ◌+◌, ltb, ℤ, ◌-ℤ◌, ◌*ℤ◌}
use Rattle.folds.specs.Below.{first}
use Rattle.offsets.specs.declared.Offset.{Offset}
use Rattle.view.specs.View.{View, rank_at, alike}
use Rattle.view.specs.Seen.{below}
use Rattle.cells.specs.Cell.{agree}
use Rattle.local_h.specs.Order.{offset_at}

-- four places of the order
pub record FourPlaces : Type 0 where
  pub a : ℕ
  pub b : ℕ
  pub c : ℕ
  pub d : ℕ

-- the step from a to b along u times that from a to c along v
abbrev pub step_product : Offset → Offset → Offset → ℤ
step_product a b c = (b.du -ℤ a.du) *ℤ (c.dv -ℤ a.dv)

-- three offsets on one lattice line: their triangle has no area
unfoldable pub on_line : Offset → Offset → Offset → Bool
on_line a b c = agree (step_product a b c) (step_product a c b)

module _ (w : View) where
  -- the rank at place p of the order round rank k
  abbrev pub member_at : ℕ → ℕ → ℕ
  member_at k p = rank_at w k (offset_at p)

  -- "cells with the corner's own index are skipped": j is a rank with another index
  abbrev pub is_other_rank : ℕ → ℕ → Bool
  is_other_rank k j = ltb j w.count && not (alike w j k)

  -- there is such a point at place p
  unfoldable pub is_other : ℕ → ℕ → Bool
  is_other k p = is_other_rank k (member_at k p)

  -- place p serves, where the line through the offsets e and f is to be left or not
  unfoldable pub is_serving : ℕ → Bool → Offset → Offset → ℕ → Bool
  is_serving k leave e f p = not (leave && on_line e f (offset_at p)) && is_other k p

  -- it serves as the fourth, after the places a, b and c
  abbrev pub is_fourth : ℕ → ℕ → ℕ → ℕ → ℕ → Bool
  is_fourth k a b c p = is_serving k (on_line (offset_at a) (offset_at b) (offset_at c)) (offset_at a) (offset_at b) p

  -- the places of the base of rank k; one of 24 or more is none, and then so are those after it
  unfoldable pub places_of : ℕ → FourPlaces
  places_of k =
      let a = first (is_other k) 0 24 in
      let b = first (is_other k) (a + 1) 24 in
      let c = first (is_other k) (b + 1) 24 in
      record { a = a; b = b; c = c; d = first (is_fourth k a b c) (c + 1) 24 }

  -- the base itself: the places that there are
  abbrev pub base_of : ℕ → List (Option ℕ)
  base_of k = let p = places_of k in below 24 p.a ∷ below 24 p.b ∷ below 24 p.c ∷ below 24 p.d ∷ []

  -- the base of rank k has its fourth, and so four members; where it has not, there are no four such points (proofs/Fewer.antt)
  abbrev pub has_four : ℕ → Bool
  has_four k = ltb (places_of k).d 24
