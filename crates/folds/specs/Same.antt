-- When two lists of numbers are the same. Assumes nothing.
use Rattle.std.specs.Prelude.{Bool, true, false, ◌&&◌, List, [], ◌∷◌, ℕ, eqb}

-- two lists are the same
unfoldable pub same_list : List ℕ → List ℕ → Bool
same_list [] [] = true
same_list [] (y ∷ b) = false
same_list (x ∷ a) [] = false
same_list (x ∷ a) (y ∷ b) = eqb x y && same_list a b
