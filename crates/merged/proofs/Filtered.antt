-- What holds of all of a list, and of those that pass a test. Assumes nothing.
use Rattle.std.specs.List.{filter}
use Rattle.std.specs.Prelude.{◌≡◌, Bool, true, false, cond, List, [], ◌∷◌}
use Rattle.std.proofs.Common.{refl, ap}
use Rattle.folds.specs.Lists.{All}

module _ {A : Type 0} where
  -- what follows for each
  pub all_map : {P Q : A → Type 0} → ((a : A) → P a → Q a) → (l : List A) → All P l → All Q l
  all_map f [] h = tt
  all_map f (a ∷ l) h = (f a h.0, all_map f l h.1)

  -- of those that pass too
  pub all-filter : (P : A → Type 0) (t : A → Bool) (l : List A) → All P l → All P (filter t l)
  all-filter P t [] h = tt
  all-filter P t (a ∷ l) h = go (t a) (all-filter P t l h.1)
    where
      go : (b : Bool) → All P (filter t l) → All P (cond b (a ∷ filter t l) (filter t l))
      go true r = (h.0, r)
      go false r = r

  -- tests that agree on a list keep the same
  pub filter_ext : (s t : A → Bool) (l : List A) → All (λ (a : A). s a ≡ t a) l → filter s l ≡ filter t l
  filter_ext s t [] h = refl
  filter_ext s t (a ∷ l) h = rw (h.0, filter_ext s t l h.1)

  -- where all pass, all are kept
  pub filter-whole : (l : List A) → filter (λ (a : A). true) l ≡ l
  filter-whole [] = refl
  filter-whole (a ∷ l) = ap (◌∷◌ a) (filter-whole l)
