-- What the functions find on the way to a base. Assumes nothing.
use Rattle.std.specs.Prelude.{Bool, cond, ◌&&◌, List, [], ◌∷◌, ℕ, Option, Some, None, ltb}
use Rattle.folds.specs.Below.{first}
use Rattle.offsets.specs.declared.Offset.{Offset}
use Rattle.view.specs.View.{View}
use Rattle.local_h.specs.declared.Found.{Found as Place}
use Rattle.local_h.specs.Order.{offset_at}
use Rattle.local_h.specs.Base.{member_at, is_other, places_of}

module _ (w : View) (k : ℕ) where
  -- place p with its offset and the rank there
  abbrev pub place_at : ℕ → Place
  place_at p = record { place = p; offset = offset_at p; rank = member_at w k p }

  -- the same, if there is a point of another index
  abbrev pub other_at : ℕ → Option Place
  other_at p = cond (is_other w k p) (Some (place_at p)) None

  -- the same, if p is a place
  abbrev pub found_at : ℕ → Option Place
  found_at p = cond (ltb p 24) (Some (place_at p)) None

  -- the first from `start` on that has a point of another index and whose offset passes
  abbrev pub found_from : (Offset → Bool) → ℕ → Option Place
  found_from serves start = found_at (first (λ (p : ℕ). serves (offset_at p) && is_other w k p) start 24)

  -- the members of the base of rank k
  unfoldable pub found_base : List (Option Place)
  found_base = let p = places_of w k in found_at p.a ∷ found_at p.b ∷ found_at p.c ∷ found_at p.d ∷ []

-- the place of one that was found
abbrev pub place_in : Option Place → Option ℕ
place_in None = None
place_in (Some f) = Some f.place
