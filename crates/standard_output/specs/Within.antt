-- Where a text ends in a buffer. Assumes nothing.
use Rattle.std.specs.Prelude.{ℕ, ◌≤◌, Result, MatchResult}

-- the text stands whole in a buffer of this size, and ends within it
abbrev pub Within : {E : Type 0} → ℕ → Result ℕ E → Type 0
Within size r = MatchResult r (λ n. n ≤ size) (λ _. ⊥)
