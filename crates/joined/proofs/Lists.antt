-- Tests of lists that are put together, filtered or mapped. Assumes nothing.
use Rattle.std.specs.List.{list_any, filter}
use mathlib.Core.Path.{◌≡◌, refl}
use mathlib.Core.Bool.{Bool, true, false, cond}
use mathlib.Core.List.{List, [], ◌∷◌, ◌++◌, map}
use Rattle.folds.specs.Among.{pair_in}
use Rattle.folds.proofs.Among.{none_in}
use Rattle.folds.specs.Lists.{All}
use Rattle.std.proofs.lemmas.Bool.{or_parts}
use Rattle.merged.proofs.Filtered.{all_map, all-filter}

module _ {A : Type 0} where
  pub all-both : (P Q R : A → Type 0) → ((a : A) → P a → Q a → R a) → (l : List A) → All P l → All Q l → All R l
  all-both P Q R f [] h k = tt
  all-both P Q R f (a ∷ l) h k = (f a h.0 k.0, all-both P Q R f l h.1 k.1)

  pub all-append : (P : A → Type 0) (a b : List A) → All P a → All P b → All P (a ++ b)
  all-append P [] b h k = k
  all-append P (x ∷ a) b h k = (h.0, all-append P a b h.1 k)

  -- what is left of a list passes
  pub all-pass : (t : A → Bool) (l : List A) → All (λ (a : A). t a ≡ true) (filter t l)
  all-pass t [] = tt
  all-pass t (a ∷ l) = go (t a) refl (all-pass t l)
    where
      go : (b : Bool) → t a ≡ b → All (λ (x : A). t x ≡ true) (filter t l) → All (λ (x : A). t x ≡ true) (cond b (a ∷ filter t l) (filter t l))
      go true e r = (e, r)
      go false e r = r

  -- no element passes
  pub any-none : (t : A → Bool) (l : List A) → All (λ (a : A). t a ≡ false) l → list_any t l ≡ false
  any-none t [] h = refl
  any-none t (a ∷ l) h = rw h.0 (any-none t l h.1)

  pub append-none : (t : A → Bool) (a b : List A) → list_any t a ≡ false → list_any t b ≡ false → list_any t (a ++ b) ≡ false
  append-none t a b h k = any-none t (a ++ b) (all-append (λ (x : A). t x ≡ false) a b (none_in t a h) (none_in t b k))

  pub filter-none : (t s : A → Bool) (l : List A) → list_any t l ≡ false → list_any t (filter s l) ≡ false
  filter-none t s l h = any-none t (filter s l) (all-filter (λ (x : A). t x ≡ false) s l (none_in t l h))

  -- nor does a pair: of two lists and across, and of what is left of one
  pub pair-append : (t : A → A → Bool) (a b : List A) → pair_in t a ≡ false → pair_in t b ≡ false → All (λ (x : A). All (λ (y : A). t x y ≡ false) b) a → pair_in t (a ++ b) ≡ false
  pair-append t [] b h k c = k
  pair-append t (x ∷ a) b h k c =
      let o = or_parts (list_any (t x) a) (pair_in t a) h in
      rw (append-none (t x) a b o.0 (any-none (t x) b c.0)) (pair-append t a b o.1 k c.1)

  pub pair-filter : (t : A → A → Bool) (s : A → Bool) (l : List A) → pair_in t l ≡ false → pair_in t (filter s l) ≡ false
  pair-filter t s [] h = refl
  pair-filter t s (x ∷ l) h = let o = or_parts (list_any (t x) l) (pair_in t l) h in go (s x) o.0 (pair-filter t s l o.1)
    where
      go : (b : Bool) → list_any (t x) l ≡ false → pair_in t (filter s l) ≡ false → pair_in t (cond b (x ∷ filter s l) (filter s l)) ≡ false
      go true e r = rw (filter-none (t x) s l e) r
      go false e r = r

  -- across, the other way round
  pub across : (R : A → A → Type 0) (a b : List A) → All (λ (y : A). All (λ (x : A). R x y) a) b → All (λ (x : A). All (λ (y : A). R x y) b) a
  across R [] b h = tt
  across R (x ∷ a) b h = (
    all_map (λ y p. p.0) b h,
    across R a b (all_map (λ y p. p.1) b h),
  )

module _ {A B : Type 0} (g : A → B) where
  pub all-images : (P : B → Type 0) (l : List A) → All (λ (a : A). P (g a)) l → All P (map g l)
  all-images P [] h = tt
  all-images P (a ∷ l) h = (h.0, all-images P l h.1)

  pub map-none : (t : B → Bool) (l : List A) → All (λ (a : A). t (g a) ≡ false) l → list_any t (map g l) ≡ false
  map-none t l h = any-none t (map g l) (all-images (λ (b : B). t b ≡ false) l h)

  -- pairs of images
  module _ (t : A → A → Bool) (s : B → B → Bool) (P : A → Type 0) (f : (a b : A) → P a → P b → t a b ≡ false → s (g a) (g b) ≡ false) where
    any-image : (a : A) (l : List A) → P a → All P l → list_any (t a) l ≡ false → list_any (s (g a)) (map g l) ≡ false
    any-image a [] p h e = refl
    any-image a (b ∷ l) p h e = let o = or_parts (t a b) (list_any (t a) l) e in rw (f a b p h.0 o.0) (any-image a l p h.1 o.1)

    pub pair-image : (l : List A) → All P l → pair_in t l ≡ false → pair_in s (map g l) ≡ false
    pair-image [] h e = refl
    pair-image (a ∷ l) h e = let o = or_parts (list_any (t a) l) (pair_in t l) e in rw (any-image a l h.0 h.1 o.0) (pair-image l h.1 o.1)
