-- Two lists in the order of a key, merged into one by a single walk: where both have a key, the element of the first is taken and that of the
-- second is left out. Assumes nothing.
use Rattle.std.specs.List.{list_any}
use Rattle.std.specs.Prelude.{Bool, cond, not, List, [], ◌∷◌, ℕ, ◌<◌, eqb, ltb}
use Rattle.folds.specs.Lists.{All}

module _ {A : Type 0} (key : A → ℕ) where
  -- p, which comes first in its list, and `rest` of that list, among those of another
  abbrev pub place : A → (List A → List A) → List A → List A
  place p rest [] = p ∷ rest []
  place p rest (q ∷ b) = cond (ltb (key q) (key p)) (q ∷ place p rest b) (p ∷ rest (cond (ltb (key p) (key q)) (q ∷ b) b))

  unfoldable pub merged : List A → List A → List A
  merged [] b = b
  merged (p ∷ a) b = place p (merged a) b

  -- ---- what the law of it speaks of (proofs/Merged.antt, sorted-merged)

  -- the keys of a list rise
  abbrev pub Climbs : List A → Type 0
  Climbs [] = Unit {0}
  Climbs (a ∷ l) = All (λ (b : A). key a < key b) l × Climbs l

  -- no element of a list has the key of q
  abbrev pub is_fresh : List A → A → Bool
  is_fresh a q = not (list_any (λ (p : A). eqb (key p) (key q)) a)
