-- Digits, one by one from the front. Assumes nothing.
use Rattle.std.proofs.Common.{◌≡◌, refl, ap, ◌∙◌, Option, None, Some, ℕ, ◌+◌, ◌-◌, ◌*◌, ◌^◌, ◌<◌, ◌≤◌, Bool, true, false, List, length, get_or, drop, arith, cond, leb}
use native.Mathlib.Numerals.{add-one}
use native.Mathlib.Nat.{pow-suc}
use lib.ListN.{drop_of_length-le}
use lib.Seq.{drop-cons}
use borrow.Author.Tests.{eq-eqb, ne_eqb, leb-true}
use Rattle.std.proofs.Math.Nat.{pow-le-pow_right}
use Rattle.std.proofs.lemmas.Bool.{and_parts}
use Rattle.std.specs.Prelude.{option_and_then}
use Rattle.join_arguments.specs.Pattern.{among, digit_of, spelled, pattern_of}

module _ (t : List ℕ) where
  -- one digit more
  spelled-next : (n i : ℕ) → i < length t → spelled n (drop i t) ≡ option_and_then (λ d. spelled (16 * n + d) (drop (i + 1) t)) (digit_of (get_or t i 0))
  unfolding spelled
  spelled-next n i l = rw (drop-cons t i 0 l, add-one i)

  pub spelled-digit : (n i : ℕ) {d : ℕ} → i < length t → digit_of (get_or t i 0) ≡ Some d → spelled n (drop i t) ≡ spelled (16 * n + d) (drop (i + 1) t)
  spelled-digit n i {d} l e = spelled-next n i l ∙ ap (option_and_then (λ d. spelled (16 * n + d) (drop (i + 1) t))) e

  pub spelled-none : (n i : ℕ) → i < length t → digit_of (get_or t i 0) ≡ None → spelled n (drop i t) ≡ None
  spelled-none n i l e = spelled-next n i l ∙ ap (option_and_then (λ d. spelled (16 * n + d) (drop (i + 1) t))) e

  pub spelled-end : (n i : ℕ) → length t ≤ i → spelled n (drop i t) ≡ Some n
  unfolding spelled
  spelled-end n i l = rw (drop_of_length-le t l)

  -- eight bytes, or another number of them
  pub pattern-eight : length t ≡ 8 → pattern_of t ≡ spelled 0 t
  unfolding pattern_of
  pattern-eight e = rw (eq-eqb (length t) 8 e)

  pub pattern-other : (length t ≡ 8 → ⊥) → pattern_of t ≡ None
  unfolding pattern_of
  pattern-other h = rw (ne_eqb (length t) 8 h)

-- so many digits spell a number of so many bits
pub fits : (n k : ℕ) → n < 16 ^ k → k < 8 → 16 * n + 15 < 2 ^ 32
fits n k l h = omega (arith, l, pow-le-pow_right {n = 16} (omega arith) {i = k} {j = 7} (omega arith))

-- one digit more keeps a number in its bound
pub grows : (n k d : ℕ) → n < 16 ^ k → d < 16 → 16 * n + d < 16 ^ (k + 1)
grows n k d l h = rw (add-one k) (omega (arith, l, h, pow-suc 16 k))

some_same : {m n : ℕ} → ◌≡◌ {A = Option ℕ} (Some m) (Some n) → m ≡ n
some_same e = cc

-- "each 0-9, A-F, a-f": no digit is 16 or more
pub digit-small : (c : ℕ) {d : ℕ} → digit_of c ≡ Some d → d < 16
digit-small c {d} e = go (among 48 57 c) (among 65 70 c) (among 97 102 c) (below 48 57 c) (below 65 70 c) (below 97 102 c) e
  where
    below : (first last c : ℕ) → among first last c ≡ true → c ≤ last
    below first last c h = leb-true c last (and_parts (leb first c) (leb c last) h).1

    go : (p q r : Bool) → (p ≡ true → c ≤ 57) → (q ≡ true → c ≤ 70) → (r ≡ true → c ≤ 102) → cond p (Some (c - 48)) (cond q (Some (c - 55)) (cond r (Some (c - 87)) None)) ≡ Some d → d < 16
    go true q r f g h e = omega (arith, f refl, some_same e)
    go false true r f g h e = omega (arith, g refl, some_same e)
    go false false true f g h e = omega (arith, h refl, some_same e)
    go false false false f g h e = absurd cc
