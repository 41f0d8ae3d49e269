-- The merged list of two lists whose keys rise is the sorted list of the first and of what the second adds. Assumes nothing.
use Rattle.std.specs.List.{list_any, filter}
use Rattle.std.specs.Prelude.{◌≡◌, Bool, true, false, cond, List, [], ◌∷◌, ◌++◌, ℕ, ◌<◌, eqb, ltb}
use Rattle.std.proofs.Common.{refl, sym, ap, ◌∙◌, arith, lt-ltb, le-ltb, eq-eqb}
use Prim.{Dec, yes, no}
use native.Mathlib.Decide.{dec_lt}
use borrow.Author.Tests.{ne_eqb}
use Rattle.folds.specs.Lists.{All}
use Rattle.sort.specs.Sorted.{sort, insert}
use Rattle.sort.proofs.Sorted.{sort-least}
use Rattle.merged.specs.Merged.{place, merged, Climbs, is_fresh}
use Rattle.merged.proofs.Filtered.{all_map, all-filter, filter_ext, filter-whole}

module _ {A : Type 0} (key : A → ℕ) where
  -- the order by keys
  abbrev sooner : A → A → Bool
  sooner p q = ltb (key p) (key q)

  -- the key of p is below those of a list
  abbrev Below : A → List A → Type 0
  Below p l = All (λ (q : A). key p < key q) l

  -- ---- both lists whole, by their keys

  -- p and then `rest`, among those of a list
  abbrev weave : A → (List A → List A) → List A → List A
  weave p rest [] = p ∷ rest []
  weave p rest (q ∷ b) = cond (ltb (key q) (key p)) (q ∷ weave p rest b) (p ∷ rest (q ∷ b))

  -- both lists, by their keys
  abbrev woven : List A → List A → List A
  woven [] b = b
  woven (p ∷ a) b = weave p (woven a) b

  -- an element put in its place is woven in: into a list, before the first of a woven list, and so into that
  insert-alone : (p : A) (b : List A) → insert sooner p b ≡ weave p (woven []) b
  unfolding insert
  insert-alone p [] = refl
  insert-alone p (q ∷ b) = ap (λ (l : List A). cond (sooner q p) (q ∷ l) (p ∷ q ∷ b)) (insert-alone p b)

  insert-before : (p r : A) (rest : List A → List A) (b : List A) → key p < key r → insert sooner p (weave r rest b) ≡ weave p (weave r rest) b
  unfolding insert
  insert-before p r rest [] h = rw (le-ltb (key r) (key p) (omega arith))
  insert-before p r rest (q ∷ b) h = go (dec_lt (key q) (key p)) (dec_lt (key q) (key r)) (insert-before p r rest b h)
    where
      go : Dec (key q < key p) → Dec (key q < key r) → insert sooner p (weave r rest b) ≡ weave p (weave r rest) b
          → insert sooner p (cond (sooner q r) (q ∷ weave r rest b) (r ∷ rest (q ∷ b))) ≡ cond (sooner q p) (q ∷ weave p (weave r rest) b) (p ∷ cond (sooner q r) (q ∷ weave r rest b) (r ∷ rest (q ∷ b)))
      go (yes x) y e = rw (lt-ltb (key q) (key p) x, lt-ltb (key q) (key r) (omega arith), lt-ltb (key q) (key p) x) (ap (◌∷◌ q) e)
      go (no x) (yes y) e = rw (lt-ltb (key q) (key r) y, le-ltb (key q) (key p) (omega arith))
      go (no x) (no y) e = rw (le-ltb (key q) (key r) (omega arith), le-ltb (key q) (key p) (omega arith), le-ltb (key r) (key p) (omega arith))

  insert-woven : (p : A) (a b : List A) → Below p a → insert sooner p (woven a b) ≡ woven (p ∷ a) b
  insert-woven p [] b h = insert-alone p b
  insert-woven p (r ∷ a) b h = insert-before p r (woven a) b h.0

  -- a list whose keys rise is sorted
  pub climbing-sorted : (b : List A) → Climbs key b → sort sooner b ≡ b
  unfolding sort
  climbing-sorted [] h = refl
  climbing-sorted (q ∷ b) h =
      sort-least sooner q b (all_map (λ r l. le-ltb (key r) (key q) (omega arith)) b h.0) ∙ ap (◌∷◌ q) (climbing-sorted b h.1)

  -- two of them, sorted, are the woven list
  sorted-woven : (a b : List A) → Climbs key a → Climbs key b → sort sooner (a ++ b) ≡ woven a b
  unfolding sort
  sorted-woven [] b ha hb = climbing-sorted b hb
  sorted-woven (p ∷ a) b ha hb = ap (insert sooner p) (sorted-woven a b ha.1 hb) ∙ insert-woven p a b ha.0

  -- ---- what the second list adds

  -- below all of b, p comes first
  weave-first : (p : A) (rest : List A → List A) (b : List A) → Below p b → weave p rest b ≡ p ∷ rest b
  weave-first p rest [] h = refl
  weave-first p rest (q ∷ b) h = let l = h.0 in rw (le-ltb (key q) (key p) (omega arith))

  -- and is not in the way of what is fresh
  fresh-low : (p : A) (a b : List A) → Below p b → filter (is_fresh key (p ∷ a)) b ≡ filter (is_fresh key a) b
  fresh-low p a b h =
      filter_ext (is_fresh key (p ∷ a)) (is_fresh key a) b (all_map (λ q (l : key p < key q). rw (ne_eqb (key p) (key q) (λ e. omega (arith, e)))) b h)

  -- none of the elements above q has its key
  none-low : (q : A) (a : List A) → Below q a → list_any (λ (p : A). eqb (key p) (key q)) a ≡ false
  none-low q [] h = refl
  none-low q (p ∷ a) h = let l = h.0 in rw (ne_eqb (key p) (key q) (λ e. omega (arith, e))) (none-low q a h.1)

  -- p comes before what is fresh of b
  first-woven : (p : A) (a b : List A) → Below p b → p ∷ woven a (filter (is_fresh key a) b) ≡ weave p (woven a) (filter (is_fresh key (p ∷ a)) b)
  first-woven p a b h =
      sym (weave-first p (woven a) (filter (is_fresh key a) b) (all-filter (λ (x : A). key p < key x) (is_fresh key a) b h))
      ∙ ap (weave p (woven a)) (sym (fresh-low p a b h))

  -- so the merged list is the first, woven with what is fresh of the second
  merged-woven : (a b : List A) → Climbs key a → Climbs key b → merged key a b ≡ woven a (filter (is_fresh key a) b)
  unfolding merged
  merged-woven [] b ha hb = sym (filter-whole b)
  merged-woven (p ∷ a) b ha hb = by_second b hb (λ c hc. merged-woven a c ha.1 hc)
    where
      by_second : (c : List A) → Climbs key c → ((d : List A) → Climbs key d → merged key a d ≡ woven a (filter (is_fresh key a) d))
          → place key p (merged key a) c ≡ weave p (woven a) (filter (is_fresh key (p ∷ a)) c)
      by_second [] hc r = ap (◌∷◌ p) (r [] tt)
      by_second (q ∷ c) hc r = go (dec_lt (key q) (key p)) (dec_lt (key p) (key q)) (by_second c hc.1 r)
        where
          go : Dec (key q < key p) → Dec (key p < key q) → place key p (merged key a) c ≡ weave p (woven a) (filter (is_fresh key (p ∷ a)) c)
              → cond (ltb (key q) (key p)) (q ∷ place key p (merged key a) c) (p ∷ merged key a (cond (ltb (key p) (key q)) (q ∷ c) c))
              ≡ weave p (woven a) (cond (is_fresh key (p ∷ a) q) (q ∷ filter (is_fresh key (p ∷ a)) c) (filter (is_fresh key (p ∷ a)) c))
          go (yes x) y e =
              rw (lt-ltb (key q) (key p) x, ne_eqb (key p) (key q) (λ e. omega (arith, e, x)), none-low q a (all_map (λ r m. omega arith) a ha.0), lt-ltb (key q) (key p) x)
              (ap (◌∷◌ q) e)
          go (no x) (yes y) e =
              rw (le-ltb (key q) (key p) (omega arith), lt-ltb (key p) (key q) y) (ap (◌∷◌ p) (r (q ∷ c) hc) ∙ first-woven p a (q ∷ c) (y, all_map (λ x m. omega arith) c hc.0))
          go (no x) (no y) e =
              let s : key p ≡ key q = omega arith in
              rw (le-ltb (key q) (key p) (omega arith), le-ltb (key p) (key q) (omega arith), eq-eqb (key p) (key q) s)
              (ap (◌∷◌ p) (r c hc.1) ∙ first-woven p a c (all_map (λ x m. omega arith) c hc.0))

  -- of keys that rise, those that are kept rise
  filter-climbs : (t : A → Bool) (l : List A) → Climbs key l → Climbs key (filter t l)
  filter-climbs t [] h = tt
  filter-climbs t (q ∷ l) h = go (t q) (filter-climbs t l h.1)
    where
      go : (b : Bool) → Climbs key (filter t l) → Climbs key (cond b (q ∷ filter t l) (filter t l))
      go true r = (all-filter (λ (x : A). key q < key x) t l h.0, r)
      go false r = r

  -- the law: the first list and what the second adds, sorted, is the merged list
  pub sorted-merged : (a b : List A) → Climbs key a → Climbs key b → sort (λ (p q : A). ltb (key p) (key q)) (a ++ filter (is_fresh key a) b) ≡ merged key a b
  sorted-merged a b ha hb = sorted-woven a (filter (is_fresh key a) b) ha (filter-climbs (is_fresh key a) b hb) ∙ sym (merged-woven a b ha hb)
