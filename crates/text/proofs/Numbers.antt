-- Decimal and hexadecimal texts read back to their numbers; no leading zero; how long they are. Assumes nothing.
use Rattle.std.proofs.lemmas.List.Sums.{fold_push}
use Rattle.std.specs.List.{fold}
use mathlib.Core.Path.{◌≡◌, refl, ap, sym, ◌∙◌}
use mathlib.Core.Bool.{Bool, true, false, cond}
use mathlib.Core.List.{List, [], ◌∷◌, ◌++◌}
use Prim.Native.Nat.{ℕ, zero, suc, ◌+◌, ◌-◌, ◌*◌, ◌/◌, ◌%◌, ◌^◌, ◌≤◌, ◌<◌}
use native.Mathlib.Nat.{pow-suc}
use native.Mathlib.Omega.{arith}
use borrow.Author.Tests.{lt-ltb, le-ltb, ltb-true, ltb-false, eqb-true}
use lib.Dec.{ltb, eqb}
use lib.IntN.{pos, ◌-ℤ◌}
use lib.ListN.{length, get_or, length-append, get_or-append}
use Rattle.folds.specs.Below.{every}
use Rattle.folds.proofs.Below.{every-at}
use Rattle.folds.specs.Lists.{All}
use Rattle.text.specs.Text.{bytes, digit, digits, decimal, whole, hex_digit, hex}

-- the two cases of a definition that asks whether n is below m
pub below_or_not : {A : Type 0} (P : A → Type 0) (n m : ℕ) {a b : A} → (n < m → P a) → (m ≤ n → P b) → P (cond (ltb n m) a b)
below_or_not P n m {a} {b} f g = go (ltb n m) refl
  where
    go : (t : Bool) → ltb n m ≡ t → P (cond t a b)
    go true e = f (ltb-true n m e)
    go false e = g (ltb-false n m e)

-- enough divisions are enough
digits-any : (f g n : ℕ) → n ≤ f → n ≤ g → digits (ltb n 10) f n ≡ digits (ltb n 10) g n
unfolding digits
digits-any zero zero n a b = refl
digits-any zero (suc g) n a b = let z : n ≡ 0 = omega arith in rw z
digits-any (suc f) zero n a b = let z : n ≡ 0 = omega arith in rw z
digits-any (suc f) (suc g) n a b = go (ltb n 10) (digits-any f g (n / 10) (omega arith) (omega arith))
  where
    go : (b : Bool) → digits (ltb (n / 10) 10) f (n / 10) ≡ digits (ltb (n / 10) 10) g (n / 10) → digits b (suc f) n ≡ digits b (suc g) n
    go true e = refl
    go false e = rw e

-- the printer's equation
pub decimal_step : (n : ℕ) → decimal n ≡ cond (ltb n 10) (digit n) (decimal (n / 10) ++ digit (n % 10))
unfolding decimal digits
decimal_step n = digits-any n (suc n) n (omega arith) (omega arith) ∙ go (ltb n 10) (digits-any n (n / 10) (n / 10) (omega arith) (omega arith))
  where
    go : (b : Bool) → digits (ltb (n / 10) 10) n (n / 10) ≡ decimal (n / 10) → digits b (suc n) n ≡ cond b (digit n) (decimal (n / 10) ++ digit (n % 10))
    go true e = refl
    go false e = rw e

pub decimal-one : (n : ℕ) → n < 10 → decimal n ≡ digit n
decimal-one n h = decimal_step n ∙ rw (lt-ltb n 10 h)

pub decimal-more : (n : ℕ) → 10 ≤ n → decimal n ≡ decimal (n / 10) ++ digit (n % 10)
decimal-more n h = decimal_step n ∙ rw (le-ltb n 10 h)

-- what holds of one digit, and of a text with one digit more, holds of every decimal text
module _ (P : ℕ → List ℕ → Type 0) (one : (n : ℕ) → n < 10 → P n (digit n)) (more : (n : ℕ) (t : List ℕ) → 10 ≤ n → P (n / 10) t → P n (t ++ digit (n % 10))) where
  decimal-to : (most n : ℕ) → n ≤ most → P n (decimal n)
  decimal-to zero n h = rw (decimal_step n) (below_or_not (P n) n 10 (one n) (λ l. absurd (omega arith)))
  decimal-to (suc most) n h = rw (decimal_step n) (below_or_not (P n) n 10 (one n) (λ l. more n (decimal (n / 10)) l (decimal-to most (n / 10) (omega arith))))

  pub decimal-ind : (n : ℕ) → P n (decimal n)
  decimal-ind n = decimal-to n n (omega arith)

-- the number that a text of digits spells
abbrev pub read : ℕ → (ℕ → ℕ) → List ℕ → ℕ
read base value t = fold (λ (a c : ℕ). base * a + value c) 0 t

abbrev pub decimal_value : ℕ → ℕ
decimal_value c = c - 48

-- "in decimal, first digit first": a decimal text reads back to its number
pub decimal-reads : (n : ℕ) → read 10 decimal_value (decimal n) ≡ n
decimal-reads =
    decimal-ind (λ n t. read 10 decimal_value t ≡ n) (λ n h. omega arith)
    (λ n t h e. fold_push (λ (a c : ℕ). 10 * a + (c - 48)) 0 t (48 + n % 10) ∙ rw e (omega arith))

all_then : (P : ℕ → Type 0) (s t : List ℕ) → All P s → All P t → All P (s ++ t)
all_then P [] t h g = g
all_then P (c ∷ s) t h g = (h.0, all_then P s t h.1 g)

-- a decimal text has digits only
pub decimal-digits : (n : ℕ) → All (λ (c : ℕ). (48 ≤ c) × (c ≤ 57)) (decimal n)
decimal-digits =
    decimal-ind (λ n t. All (λ (c : ℕ). (48 ≤ c) × (c ≤ 57)) t) (λ n h. ((omega arith, omega arith), tt))
    (λ n t h e. all_then (λ (c : ℕ). (48 ≤ c) × (c ≤ 57)) t (digit (n % 10)) e ((omega arith, omega arith), tt))

-- "without leading zeros": the first digit is 0 for 0 alone
pub decimal-leads : (n : ℕ) → get_or (decimal n) 0 0 ≡ 48 → n ≡ 0
decimal-leads n =
    (decimal-ind (λ n t. (0 < length t) × (get_or t 0 0 ≡ 48 → n ≡ 0)) (λ n h. (omega arith, λ e. omega arith))
    (λ n t h e. (rw (length-append t (digit (n % 10))) (omega arith), λ d. absurd (omega (arith, e.1 (sym (get_or-append t (digit (n % 10)) 0 0 e.0) ∙ d))))) n).1

-- a number below 10 ^ k has at most k digits
pub decimal-length : (k n : ℕ) → n < 10 ^ suc k → length (decimal n) ≤ suc k
decimal-length k n l =
    decimal-ind (λ n t. (k : ℕ) → n < 10 ^ suc k → length t ≤ suc k) (λ n h k l. omega arith) shorter n k l
  where
    shorter : (n : ℕ) (t : List ℕ) → 10 ≤ n → ((k : ℕ) → n / 10 < 10 ^ suc k → length t ≤ suc k) → (k : ℕ) → n < 10 ^ suc k → length (t ++ digit (n % 10)) ≤ suc k
    shorter n t h e zero l = absurd (omega arith)
    shorter n t h e (suc k) l = rw (length-append t (digit (n % 10))) (omega (arith, e k (omega (arith, pow-suc 10 (suc k)))))

-- ---- hexadecimal

pub hex-none : (k b : ℕ) → k ≡ 0 → hex k b ≡ []
unfolding hex
hex-none k b e = rw e

pub hex-more : (k b : ℕ) → (k ≡ 0 → ⊥) → hex k b ≡ hex (k - 1) (b / 16) ++ (hex_digit (b % 16) ∷ [])
unfolding hex
hex-more k b h = let e : k ≡ suc (k - 1) = omega (arith, h) in ap (λ (m : ℕ). hex m b) e

pub hex-length : (k b : ℕ) → length (hex k b) ≡ k
unfolding hex
hex-length zero b = refl
hex-length (suc k) b = length-append (hex k (b / 16)) (hex_digit (b % 16) ∷ []) ∙ rw (hex-length k (b / 16)) (omega arith)

abbrev pub hex_value : ℕ → ℕ
hex_value c = cond (ltb c 65) (c - 48) (c - 55)

value-digit : (d : ℕ) → d < 16 → hex_value (hex_digit d) ≡ d
unfolding every
value-digit d l = eqb-true (hex_value (hex_digit d)) d (every-at (λ (d : ℕ). eqb (hex_value (hex_digit d)) d) 16 refl d l)

-- k hexadecimal digits read back to a number below 16 ^ k
pub hex-reads : (k b : ℕ) → b < 16 ^ k → read 16 hex_value (hex k b) ≡ b
unfolding hex
hex-reads zero b l = omega arith
hex-reads (suc k) b l =
    fold_push (λ (a c : ℕ). 16 * a + hex_value c) 0 (hex k (b / 16)) (hex_digit (b % 16))
    ∙ rw (hex-reads k (b / 16) (omega (arith, pow-suc 16 k)), value-digit (b % 16) (omega arith)) (omega arith)

-- ---- differences

-- the two cases of a whole number that is a difference
pub whole_below : (a b : ℕ) → a < b → whole (pos a -ℤ pos b) ≡ bytes "-" ++ decimal (b - a)
unfolding whole
whole_below a zero h = absurd (omega arith)
whole_below a (suc b) h = let e : suc (suc b - suc a) ≡ suc b - a = omega arith in rw (lt-ltb a (suc b) h, e)

pub whole_from : (a b : ℕ) → b ≤ a → whole (pos a -ℤ pos b) ≡ decimal (a - b)
unfolding whole
whole_from a zero h = let e : a + 0 ≡ a - 0 = omega arith in ap decimal e
whole_from a (suc b) h = rw (le-ltb a (suc b) h)
