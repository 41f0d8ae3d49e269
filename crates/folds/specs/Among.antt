-- Tests of a list's elements: some element passes, some pair passes. Assumes nothing.
use Rattle.std.specs.List.{list_any}
use Rattle.std.specs.Prelude.{Bool, false, ◌||◌, List, [], ◌∷◌}

module _ {A : Type 0} where
  -- two elements at different places pass together, the earlier one first
  abbrev pub pair_in : (A → A → Bool) → List A → Bool
  pair_in t [] = false
  pair_in t (a ∷ l) = list_any (t a) l || pair_in t l
