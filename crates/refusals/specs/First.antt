-- An ordered list of conditions, each a number and whether it holds, and what is ruled by it: the first that holds, or something
-- else where none does. Assumes nothing.
use Rattle.std.specs.Prelude.{Bool, false, cond, List, [], ◌∷◌, ℕ, eqb}

-- the number of a refusal, and whether its condition holds
abbrev pub Condition : Type 0
Condition = ℕ × Bool

-- "A call returns the first number that applies"; z where none does
abbrev pub ruled : {R : Type 0} → (ℕ → R) → R → List Condition → R
ruled refuse z [] = z
ruled refuse z (c ∷ l) = cond c.1 (refuse c.0) (ruled refuse z l)

-- the condition of number k holds
abbrev pub applies_in : List Condition → ℕ → Bool
applies_in [] k = false
applies_in (c ∷ l) k = cond (eqb c.0 k) c.1 (applies_in l k)

-- the number given, 0 for none, as code hands it on
abbrev pub number_in : List Condition → ℕ
number_in l = ruled (λ (k : ℕ). k) 0 l
