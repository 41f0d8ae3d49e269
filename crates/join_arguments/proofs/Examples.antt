-- Arguments that are floats, and some that are none; and what the listing prints of a pattern is read as that pattern. Assumes nothing.
use Rattle.std.proofs.Common.{◌≡◌, refl, ap, ◌∙◌, Option, None, Some, ℕ, zero, suc, ◌+◌, ◌*◌, ◌/◌, ◌%◌, ◌^◌, ◌<◌, Bool, true, false, List, [], ◌∷◌, ◌++◌, arith, eqb}
use mathlib.Core.Bool.{false≢true}
use native.Mathlib.Nat.{pow-suc}
use borrow.Author.Tests.{eqb-true}
use Rattle.std.specs.Prelude.{option_and_then}
use Rattle.folds.specs.Below.{every}
use Rattle.folds.proofs.Below.{every-at}
use Rattle.text.specs.Text.{bytes, hex, hex_digit}
use Rattle.text.proofs.Numbers.{hex-length}
use Rattle.join_arguments.specs.Pattern.{digit_of, spelled, pattern_of}
use Rattle.join_arguments.proofs.Spelling.{pattern-eight}

-- 1, and -1.75 in capitals and small digits
one : pattern_of (bytes "3F800000") ≡ Some 0x3F80_0000
unfolding pattern_of spelled
one = refl

capitals : pattern_of (bytes "BFE00000") ≡ Some 0xBFE0_0000
unfolding pattern_of spelled
capitals = refl

small : pattern_of (bytes "bfe00000") ≡ Some 0xBFE0_0000
unfolding pattern_of spelled
small = refl

-- seven digits, nine, a letter past F, a sign
seven : pattern_of (bytes "3F80000") ≡ None
unfolding pattern_of spelled
seven = refl

nine : pattern_of (bytes "03F800000") ≡ None
unfolding pattern_of spelled
nine = refl

letter : pattern_of (bytes "3F80000G") ≡ None
unfolding pattern_of spelled
letter = refl

sign : pattern_of (bytes "-3F80000") ≡ None
unfolding pattern_of spelled
sign = refl

-- ---- what the listing prints

-- the value is n
abbrev holds : Option ℕ → ℕ → Bool
holds None n = false
holds (Some m) n = eqb m n

told : (o : Option ℕ) (n : ℕ) → holds o n ≡ true → o ≡ Some n
told None n e = absurd (false≢true e)
told (Some m) n e = ap Some (eqb-true m n e)

digit-hex : (d : ℕ) → d < 16 → digit_of (hex_digit d) ≡ Some d
unfolding every
digit-hex d l = told (digit_of (hex_digit d)) d (every-at (λ (d : ℕ). holds (digit_of (hex_digit d)) d) 16 refl d l)

-- digits after others
spelled-more : (n : ℕ) (s t : List ℕ) → spelled n (s ++ t) ≡ option_and_then (λ m. spelled m t) (spelled n s)
unfolding spelled
spelled-more n [] t = refl
spelled-more n (c ∷ s) t = go (λ m. spelled-more m s t) (digit_of c)
  where
    go : ((m : ℕ) → spelled m (s ++ t) ≡ option_and_then (λ m. spelled m t) (spelled m s)) → (o : Option ℕ) → option_and_then (λ d. spelled (16 * n + d) (s ++ t)) o ≡ option_and_then (λ m. spelled m t) (option_and_then (λ d. spelled (16 * n + d) s) o)
    go h None = refl
    go h (Some d) = h (16 * n + d)

spelled-hex : (k b : ℕ) → b < 16 ^ k → spelled 0 (hex k b) ≡ Some b
unfolding spelled hex
spelled-hex zero b l = ap Some (omega arith)
spelled-hex (suc k) b l =
    let m : b / 16 < 16 ^ k = omega (arith, pow-suc 16 k) in
    let e : 16 * (b / 16) + b % 16 ≡ b = omega arith in
    spelled-more 0 (hex k (b / 16)) (hex_digit (b % 16) ∷ []) ∙ rw (spelled-hex k (b / 16) m, digit-hex (b % 16) (omega arith)) (ap Some e)

-- "in eight hexadecimal digits", as a listing has a float's pattern
pub pattern-hex : (b : ℕ) → b < 2 ^ 32 → pattern_of (hex 8 b) ≡ Some b
pattern-hex b l = pattern-eight (hex 8 b) (hex-length 8 b) ∙ spelled-hex 8 b (omega arith)
