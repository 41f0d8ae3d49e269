-- Numbers and refusals as texts. A text is a list of bytes. Assumes nothing.
use Rattle.std.specs.Prelude.{Bool, true, false, List, [], ◌∷◌, ◌++◌, ℕ, zero, suc, ◌+◌, ◌-◌, ◌/◌, ◌%◌, ltb, ℤ, pos, negsuc, length, get_or}
use Prim.Native.Char.{code}
use Prim.Native.String.{String, [] as nothing, ◌∷◌ as ◌then◌}
use Rattle.folds.specs.Below.{fold}

-- the bytes of a text of ASCII characters
abbrev pub bytes : String → List ℕ
bytes nothing = []
bytes (c then s) = code c ∷ bytes s

-- f 0, .., f (n - 1), one after the other
unfoldable pub each : (ℕ → List ℕ) → ℕ → List ℕ
unfolding fold
each f n = fold (λ k t. t ++ f k) [] n

abbrev pub digit : ℕ → List ℕ
digit d = (48 + d) ∷ []

-- the decimal digits of n, by at most `most` divisions; `single`: n is below 10
unfoldable pub digits : Bool → ℕ → ℕ → List ℕ
digits single zero n = digit n
digits true (suc most) n = digit n
digits false (suc most) n = digits (ltb (n / 10) 10) most (n / 10) ++ digit (n % 10)

-- "Indices are printed in decimal, first digit first, without leading zeros." The index falls at each division, so n of them suffice.
unfoldable pub decimal : ℕ → List ℕ
unfolding digits
decimal n = digits (ltb n 10) n n

-- "Cell numbers are printed likewise, with a minus sign below 0." (negsuc n is −(n + 1))
unfoldable pub whole : ℤ → List ℕ
unfolding decimal
whole (pos n) = decimal n
whole (negsuc n) = bytes "-" ++ decimal (suc n)

-- "hexadecimal digits with capitals"
abbrev pub hex_digit : ℕ → ℕ
hex_digit d = get_or (bytes "0123456789ABCDEF") d 0

-- the last k hexadecimal digits of b, first digit first
unfoldable pub hex : ℕ → ℕ → List ℕ
hex zero b = []
hex (suc k) b = hex k (b / 16) ++ (hex_digit (b % 16) ∷ [])

-- so many spaces
unfoldable pub spaces : ℕ → List ℕ
unfolding each
spaces count = each (λ k. bytes " ") count

-- "right-aligned": spaces before the text, up to `width` characters; none where it has as many
unfoldable pub right_aligned : ℕ → List ℕ → List ℕ
unfolding spaces
right_aligned width t = spaces (width - length t) ++ t

-- "A refusal prints `refused` and the number."
unfoldable pub refusal_of : ℕ → List ℕ
unfolding decimal
refusal_of number = bytes "refused " ++ decimal number ++ bytes "\n"
