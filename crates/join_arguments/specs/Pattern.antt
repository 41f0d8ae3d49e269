-- "Floats in eight hexadecimal digits", capitals or small. Assumes nothing.
use Rattle.std.specs.Prelude.{Bool, ◌&&◌, cond, List, [], ◌∷◌, ℕ, ◌+◌, ◌-◌, ◌*◌, leb, ◌==◌, length, Option, None, Some, option_and_then}

-- c is one of the bytes from `first` to `last`
abbrev pub among : ℕ → ℕ → ℕ → Bool
among first last c = leb first c && leb c last

-- the value of a digit: 0 to 9, A to F, a to f; none for another byte
abbrev pub digit_of : ℕ → Option ℕ
digit_of c = cond (among 48 57 c) (Some (c - 48)) (cond (among 65 70 c) (Some (c - 55)) (cond (among 97 102 c) (Some (c - 87)) None))

-- the number that digits spell after those that spell n, first digit first; none where a byte is no digit
unfoldable pub spelled : ℕ → List ℕ → Option ℕ
spelled n [] = Some n
spelled n (c ∷ t) = option_and_then (λ d. spelled (16 * n + d) t) (digit_of c)

-- "eight hexadecimal digits"
unfoldable pub pattern_of : List ℕ → Option ℕ
unfolding spelled
pattern_of t = cond (length t == 8) (spelled 0 t) None
