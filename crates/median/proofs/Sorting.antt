-- A sort by one test is the sort by another that agrees with it; so the median of an array's numbers is the number at the middle place of its
-- sorted keys. Assumes nothing.
use mathlib.Core.Path.{◌≡◌, refl, sym, ap, subst, ◌∙◌}
use mathlib.Core.Bool.{Bool, true, false, cond}
use mathlib.Core.List.{List, [], ◌∷◌}
use Prim.Native.Nat.{ℕ, ◌+◌, ◌/◌, ◌%◌, ◌≤◌, ◌<◌}
use Prim.{yes, no}
use native.Mathlib.Decide.{ℕ_discrete}
use native.Mathlib.Omega.{arith}
use lib.Dec.{T, eqb, ltb}
use borrow.Author.Tests.{eq-eqb, ne_eqb}
use lib.ListN.{length, get_or}
use lib.Ieee.{Float, nan, binary32, lt, fits}
use lib.Ieee.Scale.{finite}
use Rattle.folds.specs.Lists.{All, list_of}
use Rattle.folds.proofs.Lists.{length-list, list_at}
use Rattle.std.proofs.lemmas.List.{get_or_default, map-id}
use Rattle.folds.proofs.Column.{column-at}
use Rattle.view.specs.View.{max_points}
use Rattle.sort.specs.Sorted.{sort}
use Rattle.sort.specs.Packed.{packed_places, in_order_of, entries_of, placed}
use Rattle.sort.proofs.Sorted.{Agree, sort-map, at_all}
use Rattle.sort.proofs.Entries.{entry_at}
use Rattle.sort.proofs.Packed.{place_of, placed-key, things-in-order}
use Rattle.median.specs.Median.{median_of, first_of}
use Rattle.median.specs.Keys.{Number, RisingKey, rising_of, key_at, KeyedInOrder}
use Rattle.median.proofs.KeyOrder.{key-order}

module _ {A B : Type 0} (h : A → B) (first : A → A → Bool) (second : B → B → Bool) (P : A → Type 0) (same : (a b : A) → P a → P b → first a b ≡ second (h a) (h b)) where
  -- of elements with P
  pub agree-all : (l : List A) → All P l → Agree h first second l
  agree-all [] p = tt
  agree-all (a ∷ l) p = (each l p.1, agree-all l p.1)
    where
      each : (m : List A) → All P m → All (λ (b : A). first b a ≡ second (h b) (h a)) m
      each [] q = tt
      each (b ∷ m) q = (same b a q.0 p.0, each m q.1)

-- two tests that agree sort a list alike
sort-same : {A : Type 0} (first second : A → A → Bool) (P : A → Type 0) → ((a b : A) → P a → P b → first a b ≡ second a b) → (l : List A) → All P l → sort first l ≡ sort second l
sort-same first second P same l p =
    sym (map-id (sort first l)) ∙ sym (sort-map (λ a. a) first second l (agree-all (λ a. a) first second P same l p)) ∙ ap (sort second) (map-id l)

-- ---- the sorted keys

module _ (n : ℕ) (few : n ≤ max_points) where
  -- each number's entry has its key
  keys-held : (g h : ℕ → ℕ) → entries_of n g ≡ entries_of n h → (k : ℕ) → k < n → g k ≡ h k
  keys-held g h e k l =
      let p = place_of g n (omega arith) k l in
      let same : get_or (in_order_of g n) p.0 0 ≡ get_or (in_order_of h n) p.0 0 = sym (entry_at n g p.0 p.1) ∙ ap (λ (a : List ℕ). get_or a p.0 0) e ∙ entry_at n h p.0 p.1 in
      let number : placed h n p.0 ≡ k = ap (λ (x : ℕ). x % packed_places) (sym same) ∙ p.2 in
      sym (placed-key g n (omega arith) p.0 p.1 ∙ ap g p.2) ∙ ap (λ (x : ℕ). x / packed_places) same ∙ placed-key h n (omega arith) p.0 p.1 ∙ ap h number

  -- Where `sort::in_order` has sorted by all keys found, there is one for each number; so what any key found for k shows is true.
  shown : {a : List ℕ} {Found : ℕ → ℕ → Type 0} → ((g : ℕ → ℕ) → ((i r : ℕ) → i < n → Found i r → r ≡ g i) → a ≡ entries_of n g) → (g : ℕ → ℕ) → ((i r : ℕ) → i < n → Found i r → r ≡ g i)
      → (k : ℕ) → k < n → (b : Bool) → ((r : ℕ) → Found k r → T b) → T b
  shown all g is k l true f = tt
  shown {Found = Found} all g is k l false f = absurd (omega (arith, keys-held g other (sym (all g is) ∙ all other others) k l, more))
    where
      -- else it could as well have another key
      other : ℕ → ℕ
      other i = cond (eqb i k) (g i + 1) (g i)

      more : other k ≡ g k + 1
      more = rw (eq-eqb k k refl)

      others : (i r : ℕ) → i < n → Found i r → r ≡ other i
      others i r m p = elim (ℕ_discrete i k) [ yes e ↦ absurd (f r (subst (λ (j : ℕ). Found j r) e p)) | no d ↦ rw (ne_eqb i k d) (is i r m p) ]

-- what `sort::in_order` gives, where each key found is that of its number
pub keyed-in-order : {v : List Float} {n : ℕ} {a : List ℕ} {Found : ℕ → ℕ → Type 0} → n ≤ max_points → ((g : ℕ → ℕ) → ((i r : ℕ) → i < n → Found i r → r ≡ g i) → a ≡ entries_of n g)
    → ((i r : ℕ) → i < n → Found i r → RisingKey (get_or v i nan) r) → KeyedInOrder v n a
unfolding entries_of
keyed-in-order {v} {n} few all found = record {
  is = all (key_at v) (λ i r h p. (found i r h p).is);
  numbers = λ k h. record {
    is_finite = shown n few all (key_at v) (λ i r h p. (found i r h p).is) k h (finite (get_or v k nan)) (λ r p. (found k r h p).number.is_finite);
    is-f32 = shown n few all (key_at v) (λ i r h p. (found i r h p).is) k h (fits binary32 (get_or v k nan)) (λ r p. (found k r h p).number.is-f32);
  };
}

-- the entry at place i, read with any default
pub key-in-order : {v : List Float} {n : ℕ} {r : List ℕ} → KeyedInOrder v n r → (d i : ℕ) → i < n → i < length r → get_or r i d ≡ get_or (in_order_of (key_at v) n) i 0
key-in-order {v} {n} {r} k d i h l = get_or_default r i d 0 l ∙ rw k.is (column-at max_points 0 n (λ (i : ℕ). get_or (in_order_of (key_at v) n) i 0) i h)

-- ---- the median

-- no number, no median
pub no-median : (l : List Float) → length l ≡ 0 → median_of l ≡ nan
unfolding median_of sort
no-median [] h = refl
no-median (a ∷ l) h = absurd (omega arith)

module _ (v : List Float) (n : ℕ) (few : n ≤ max_points) (numbers : (k : ℕ) → k < n → Number (get_or v k nan)) where
  in_order : sort lt (first_of n v) ≡ list_of n (λ (r : ℕ). get_or v (placed (key_at v) n r) nan)
  in_order =
      sort-same lt (λ (a b : Float). ltb (rising_of a) (rising_of b)) Number key-order (first_of n v)
      (at_all Number nan (first_of n v) (λ k h. let b : k < n = omega (arith, length-list n (λ (k : ℕ). get_or v k nan)) in rw (list_at n (λ (k : ℕ). get_or v k nan) k nan b) (numbers k b)))
      ∙ things-in-order rising_of (λ (k : ℕ). get_or v k nan) n (omega arith)

  pub median-at : 0 < n → get_or v (placed (key_at v) n (n / 2)) nan ≡ median_of (first_of n v)
  unfolding median_of
  median-at some =
      rw (length-list n (λ (k : ℕ). get_or v k nan), in_order) (sym (list_at n (λ (r : ℕ). get_or v (placed (key_at v) n r) nan) (n / 2) nan (omega arith)))
