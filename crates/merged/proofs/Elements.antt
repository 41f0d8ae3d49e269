-- The elements of the merged list: how many they are, what all of them have, and by another name. Assumes nothing.
use Rattle.std.specs.Prelude.{◌≡◌, Bool, true, false, cond, List, [], ◌∷◌, map, ℕ, suc, ◌+◌, ◌≤◌, ltb, length}
use Rattle.std.proofs.Common.{refl, ap, arith}
use Rattle.folds.specs.Lists.{All}
use Rattle.merged.specs.Merged.{place, merged}

module _ {A : Type 0} (key : A → ℕ) where
  -- how long it is with p and the rest
  place-length : (p : A) (rest : List A → List A) (n : ℕ) (b : List A) → ((c : List A) → length (rest c) ≤ n + length c) → length (place key p rest b) ≤ suc n + length b
  place-length p rest n [] h = omega (arith, h [])
  place-length p rest n (q ∷ b) h = go (ltb (key q) (key p)) (ltb (key p) (key q)) (place-length p rest n b h)
    where
      go : (s t : Bool) → length (place key p rest b) ≤ suc n + length b → length (cond s (q ∷ place key p rest b) (p ∷ rest (cond t (q ∷ b) b))) ≤ suc n + suc (length b)
      go true t r = omega arith
      go false true r = omega (arith, h (q ∷ b))
      go false false r = omega (arith, h b)

  -- it has no more elements than both
  pub merged-length : (a b : List A) → length (merged key a b) ≤ length a + length b
  unfolding merged
  merged-length [] b = omega arith
  merged-length (p ∷ a) b = place-length p (merged key a) (length a) b (merged-length a)

  -- what all have with p and the rest
  place-all : (P : A → Type 0) (p : A) (rest : List A → List A) (b : List A) → P p → All P b → ((c : List A) → All P c → All P (rest c)) → All P (place key p rest b)
  place-all P p rest [] h hb r = (h, r [] tt)
  place-all P p rest (q ∷ b) h hb r = go (ltb (key q) (key p)) (ltb (key p) (key q)) (place-all P p rest b h hb.1 r)
    where
      go : (s t : Bool) → All P (place key p rest b) → All P (cond s (q ∷ place key p rest b) (p ∷ rest (cond t (q ∷ b) b)))
      go true t e = (hb.0, e)
      go false true e = (h, r (q ∷ b) hb)
      go false false e = (h, r b hb.1)

  -- what all of both lists have, all of it have
  pub merged-all : (P : A → Type 0) (a b : List A) → All P a → All P b → All P (merged key a b)
  unfolding merged
  merged-all P [] b ha hb = hb
  merged-all P (p ∷ a) b ha hb = place-all P p (merged key a) b ha.0 hb (λ c hc. merged-all P a c ha.1 hc)

-- ---- images under g

module _ {A B : Type 0} (g : A → B) (key : B → ℕ) (own : A → ℕ) where
  -- the key of each is that of its image
  abbrev Keyed : List A → Type 0
  Keyed l = All (λ (x : A). own x ≡ key (g x)) l

  -- with p and the rest
  place-map : (p : A) (rest : List A → List A) (more : List B → List B) (b : List A) → Keyed (p ∷ b) → ((c : List A) → Keyed c → more (map g c) ≡ map g (rest c))
      → place key (g p) more (map g b) ≡ map g (place own p rest b)
  place-map p rest more [] h r = ap (◌∷◌ (g p)) (r [] tt)
  place-map p rest more (q ∷ b) h r = rw (h.0, h.1.0) (go (ltb (key (g q)) (key (g p))) (ltb (key (g p)) (key (g q))) (place-map p rest more b (h.0, h.1.1) r))
    where
      go : (s t : Bool) → place key (g p) more (map g b) ≡ map g (place own p rest b)
          → cond s (g q ∷ place key (g p) more (map g b)) (g p ∷ more (cond t (g q ∷ map g b) (map g b))) ≡ map g (cond s (q ∷ place own p rest b) (p ∷ rest (cond t (q ∷ b) b)))
      go true t e = ap (◌∷◌ (g q)) e
      go false true e = ap (◌∷◌ (g p)) (r (q ∷ b) h.1)
      go false false e = ap (◌∷◌ (g p)) (r b h.1.1)

  -- the images of two lists, merged, are those of the merged list
  pub merged-map : (a b : List A) → All (λ (x : A). own x ≡ key (g x)) a → All (λ (x : A). own x ≡ key (g x)) b → merged key (map g a) (map g b) ≡ map g (merged own a b)
  unfolding merged
  merged-map [] b ha hb = refl
  merged-map (p ∷ a) b ha hb = place-map p (merged own a) (merged key (map g a)) b (ha.0, hb) (λ c hc. merged-map a c ha.1 hc)
