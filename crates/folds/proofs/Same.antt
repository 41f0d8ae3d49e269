-- Lists that are the same are equal, and tested from the front. Assumes nothing.
use mathlib.Core.Path.{◌≡◌, refl}
use mathlib.Core.Bool.{Bool, true, false, ◌&&◌, false≢true}
use mathlib.Core.List.{List, [], ◌∷◌}
use Prim.Native.Nat.{ℕ, ◌+◌, ◌≤◌, ◌<◌}
use native.Mathlib.Numerals.{add-one}
use native.Mathlib.Omega.{arith}
use lib.Dec.{eqb}
use lib.ListN.{length, get_or, drop, drop_of_length-le}
use lib.Seq.{drop-cons}
use borrow.Author.Tests.{eq-eqb, eqb-true}
use Rattle.folds.specs.Same.{same_list}
use Rattle.std.proofs.Math.Bool.{and-false}
use Rattle.std.proofs.lemmas.Bool.{and_parts}
use Rattle.std.specs.Cmp.{both_ways}

-- equal lists are the same, and no others
pub same_self : (a : List ℕ) → same_list a a ≡ true
unfolding same_list
same_self [] = refl
same_self (x ∷ a) = rw (eq-eqb x x refl) (same_self a)

pub same-equal : (a b : List ℕ) → same_list a b ≡ true → a ≡ b
unfolding same_list
same-equal [] [] h = refl
same-equal [] (y ∷ b) h = absurd (false≢true h)
same-equal (x ∷ a) [] h = absurd (false≢true h)
same-equal (x ∷ a) (y ∷ b) h = rw (eqb-true x y (and_parts (eqb x y) (same_list a b) h).0, same-equal a b (and_parts (eqb x y) (same_list a b) h).1)

-- what tells whether they are equal
pub told : {r : Bool} (a b : List ℕ) → (r ≡ true → a ≡ b) → (a ≡ b → r ≡ true) → r ≡ same_list a b
told {r} a b f g = both_ways r (same_list a b) (λ e. rw (f e) (same_self b)) (λ e. g (same-equal a b e))

-- from place i on
pub same_next : (a b : List ℕ) (i : ℕ) → i < length a → i < length b → same_list (drop i a) (drop i b) ≡ eqb (get_or a i 0) (get_or b i 0) && same_list (drop (i + 1) a) (drop (i + 1) b)
unfolding same_list
same_next a b i l m = rw (drop-cons a i 0 l, drop-cons b i 0 m, add-one i)

pub same_end : (a b : List ℕ) (i : ℕ) → length a ≤ i → length b ≤ i → same_list (drop i a) (drop i b) ≡ true
unfolding same_list
same_end a b i l m = rw (drop_of_length-le a l, drop_of_length-le b m)

-- of different length
pub other_length : (a b : List ℕ) → (length a ≡ length b → ⊥) → same_list a b ≡ false
unfolding same_list
other_length [] [] h = absurd (h refl)
other_length [] (y ∷ b) h = refl
other_length (x ∷ a) [] h = refl
other_length (x ∷ a) (y ∷ b) h = rw (other_length a b (λ e. h (omega (arith, e)))) (and-false (eqb x y))
