-- Lists of things by number, as maps of the numbers below n: their tests, and their order by another test on the numbers. Assumes nothing.
use Rattle.std.specs.List.{list_any}
use mathlib.Core.Path.{◌≡◌, refl, sym, ap, ◌∙◌}
use mathlib.Core.Bool.{Bool}
use mathlib.Core.List.{List, [], ◌∷◌, map}
use Prim.Native.Nat.{ℕ, ◌<◌}
use native.Mathlib.Omega.{arith}
use lib.ListN.{length-map, get_or-map}
use Rattle.folds.specs.Among.{pair_in}
use Rattle.folds.proofs.Among.{any-list, pair-ext}
use Rattle.folds.proofs.Below.{some-ext}
use Rattle.folds.specs.Lists.{All, list_of}
use Rattle.folds.proofs.Lists.{length-list, list_at, is-list}
use Rattle.sort.specs.Sorted.{sort}
use Rattle.sort.proofs.Sorted.{at_all, Agree, sort-map}

module _ {A B : Type 0} (g : A → B) where
  any-map : (t : B → Bool) (l : List A) → list_any t (map g l) ≡ list_any (λ (i : A). t (g i)) l
  any-map t [] = refl
  any-map t (i ∷ l) = rw (any-map t l)

  pair-map : (t : B → B → Bool) (l : List A) → pair_in t (map g l) ≡ pair_in (λ (i j : A). t (g i) (g j)) l
  pair-map t [] = refl
  pair-map t (i ∷ l) = rw (any-map (t (g i)) l, pair-map t l)

  all_map : {P Q : A → Type 0} → ((i : A) → P i → Q i) → (l : List A) → All P l → All Q l
  all_map f [] h = tt
  all_map f (i ∷ l) h = (f i h.0, all_map f l h.1)

  agree-all : (first : A → A → Bool) (second : B → B → Bool) {P : A → Type 0} → ((i j : A) → P i → P j → first j i ≡ second (g j) (g i)) → (l : List A) → All P l → Agree g first second l
  agree-all first second f [] h = tt
  agree-all first second f (i ∷ l) h = (all_map (λ j p. f i j h.0 p) l h.1, agree-all first second f l h.1)

-- 0, .., n - 1
unfoldable pub first_numbers : ℕ → List ℕ
unfolding list_of
first_numbers n = list_of n (λ (i : ℕ). i)

map-numbers : {B : Type 0} (g : ℕ → B) (n : ℕ) → map g (first_numbers n) ≡ list_of n g
unfolding first_numbers
map-numbers g n =
    is-list (g 0) n g (map g (list_of n (λ (i : ℕ). i))) (length-map (list_of n (λ (i : ℕ). i)) g ∙ length-list n (λ (i : ℕ). i))
    (λ k h. get_or-map g (list_of n (λ (i : ℕ). i)) k 0 ∙ ap g (list_at n (λ (i : ℕ). i) k 0 h))

pub numbers-below : (n : ℕ) → All (λ (i : ℕ). i < n) (first_numbers n)
unfolding first_numbers
numbers-below n = at_all (λ (i : ℕ). i < n) 0 (list_of n (λ (i : ℕ). i)) (λ k h. let l : k < n = omega (arith, length-list n (λ (i : ℕ). i)) in rw (list_at n (λ (i : ℕ). i) k 0 l) l)

pub any_same : {B : Type 0} (t : B → Bool) (f g : ℕ → B) (n : ℕ) → ((i : ℕ) → i < n → t (f i) ≡ t (g i)) → list_any t (list_of n f) ≡ list_any t (list_of n g)
any_same t f g n h = any-list f n t ∙ some-ext (λ (i : ℕ). t (f i)) (λ (i : ℕ). t (g i)) n h ∙ sym (any-list g n t)

pub pair_same : {B : Type 0} (t : B → B → Bool) (f g : ℕ → B) (n : ℕ) → ((i j : ℕ) → i < n → j < n → t (f i) (f j) ≡ t (g i) (g j)) → pair_in t (list_of n f) ≡ pair_in t (list_of n g)
unfolding first_numbers
pair_same t f g n h =
    ap (pair_in t) (sym (map-numbers f n)) ∙ pair-map f t (first_numbers n)
    ∙ pair-ext (λ (i : ℕ). i) n (λ (i j : ℕ). t (f i) (f j)) (λ (i j : ℕ). t (g i) (g j)) (λ i j ij jn. h i j (omega arith) jn)
    ∙ sym (pair-map g t (first_numbers n)) ∙ ap (pair_in t) (map-numbers g n)

-- things sorted by a test are those at the first_numbers sorted by a test that agrees with it
pub sorted-by-number : {B : Type 0} (g : ℕ → B) (n : ℕ) (first : ℕ → ℕ → Bool) (second : B → B → Bool) → ((i j : ℕ) → i < n → j < n → first j i ≡ second (g j) (g i)) → sort second (list_of n g) ≡ map g (sort first (first_numbers n))
sorted-by-number g n first second h = ap (sort second) (sym (map-numbers g n)) ∙ sort-map g first second (first_numbers n) (agree-all g first second h (first_numbers n) (numbers-below n))
