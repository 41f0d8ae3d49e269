-- How long a list by number is, and what stands at each place; what holds of all its elements; and a loop that keeps the numbers that pass.
-- Assumes nothing.
use Rattle.std.proofs.lemmas.List.Sums.{fold_push}
use Rattle.std.specs.List.{fold as over}
use mathlib.Core.Path.{◌≡◌, refl, sym, ap, ◌∙◌}
use mathlib.Core.Bool.{Bool, true, false, cond, ◌&&◌}
use mathlib.Core.List.{List, [], ◌∷◌, ◌++◌}
use Prim.Native.Nat.{ℕ, zero, suc, ◌+◌, ◌≤◌, ◌<◌}
use native.Mathlib.Nat.{lt-suc_self, le_step}
use native.Mathlib.Numerals.{add-one}
use native.Mathlib.Omega.{arith}
use lib.ListN.{length, get_or, take, set, length-append, length-set}
use mathlib.Core.Logic.{◌⊎◌, inl, inr}
use lib.Seq.{sets, ext_get_or, take-suc, take-suc-set, get_or-set_same, get_or-set_other}
use borrow.Author.Count.{below_more}
use Rattle.folds.specs.Below.{fold, tally}
use Rattle.folds.specs.Lists.{up_from, list_of, listed, All, Gathered}

module _ {A : Type 0} where
  pub past_end : (d : A) (k : ℕ) → get_or [] k d ≡ d
  past_end d zero = refl
  past_end d (suc k) = refl

  module _ (f : ℕ → A) where
    up_from-length : (at n : ℕ) → length (up_from f at n) ≡ n
    unfolding up_from
    up_from-length at zero = refl
    up_from-length at (suc n) = ap suc (up_from-length (suc at) n)

    up_from-at : (at n k : ℕ) (d : A) → k < n → get_or (up_from f at n) k d ≡ f (at + k)
    unfolding up_from
    up_from-at at zero k d h = absurd (omega arith)
    up_from-at at (suc n) zero d h = let e : at + 0 ≡ at = omega arith in ap f (sym e)
    up_from-at at (suc n) (suc k) d h = let e : suc at + k ≡ at + suc k = omega arith in up_from-at (suc at) n k d (omega arith) ∙ ap f e

    up_from-over : (at n k : ℕ) (d : A) → n ≤ k → get_or (up_from f at n) k d ≡ d
    unfolding up_from
    up_from-over at zero k d h = past_end d k
    up_from-over at (suc n) zero d h = absurd (omega arith)
    up_from-over at (suc n) (suc k) d h = up_from-over (suc at) n k d (omega arith)

  pub length-list : (n : ℕ) (f : ℕ → A) → length (list_of n f) ≡ n
  unfolding list_of
  length-list n f = up_from-length f 0 n

  pub list_at : (n : ℕ) (f : ℕ → A) (k : ℕ) (d : A) → k < n → get_or (list_of n f) k d ≡ f k
  unfolding list_of
  list_at n f k d h = let e : 0 + k ≡ k = omega arith in up_from-at f 0 n k d h ∙ ap f e

  pub list_over : (n : ℕ) (f : ℕ → A) (k : ℕ) (d : A) → n ≤ k → get_or (list_of n f) k d ≡ d
  unfolding list_of
  list_over n f k d h = up_from-over f 0 n k d h

  pub is-list : (d : A) (n : ℕ) (f : ℕ → A) (l : List A) → length l ≡ n → ((k : ℕ) → k < n → get_or l k d ≡ f k) → l ≡ list_of n f
  is-list d n f l e h = ext_get_or d l (list_of n f) (e ∙ sym (length-list n f)) (λ k lt. h k (omega arith) ∙ sym (list_at n f k d (omega arith)))

  pub list_ext : (d : A) (n : ℕ) (f g : ℕ → A) → ((k : ℕ) → k < n → f k ≡ g k) → list_of n f ≡ list_of n g
  list_ext d n f g h = is-list d n g (list_of n f) (length-list n f) (λ k l. list_at n f k d l ∙ h k l)

  -- the default counts only past the end
  pub get_d_any : (l : List A) (k : ℕ) (d e : A) → k < length l → get_or l k d ≡ get_or l k e
  get_d_any [] k d e h = absurd (omega arith)
  get_d_any (a ∷ l) zero d e h = refl
  get_d_any (a ∷ l) (suc k) d e h = get_d_any l k d e (omega arith)

  pub listed-none : (p : ℕ → Bool) (f : ℕ → A) → listed p f 0 ≡ []
  unfolding listed
  listed-none p f = refl

  pub listed_more : (p : ℕ → Bool) (f : ℕ → A) (i : ℕ) → listed p f (i + 1) ≡ cond (p i) (listed p f i ++ (f i ∷ [])) (listed p f i)
  unfolding listed
  listed_more p f i = rw (add-one i)

  pub listed-length : (p : ℕ → Bool) (f : ℕ → A) (n : ℕ) → length (listed p f n) ≡ tally p n
  unfolding listed tally
  listed-length p f zero = refl
  listed-length p f (suc n) = go (p n) (listed-length p f n)
    where
      go : (b : Bool) → length (listed p f n) ≡ tally p n → length (cond b (listed p f n ++ (f n ∷ [])) (listed p f n)) ≡ cond b (tally p n + 1) (tally p n)
      go true e = length-append (listed p f n) (f n ∷ []) ∙ ap (λ (m : ℕ). m + 1) e
      go false e = e

  pub listed-ext : (p q : ℕ → Bool) (f g : ℕ → A) (n : ℕ) → ((k : ℕ) → k < n → p k ≡ q k) → ((k : ℕ) → k < n → q k ≡ true → f k ≡ g k) → listed p f n ≡ listed q g n
  unfolding listed
  listed-ext p q f g zero h v = refl
  listed-ext p q f g (suc n) h v = rw (h n (lt-suc_self n), listed-ext p q f g n (λ k l. h k (le_step l)) (λ k l. v k (le_step l))) (go (q n) (v n (lt-suc_self n)))
    where
      go : (b : Bool) → (b ≡ true → f n ≡ g n) → cond b (listed q g n ++ (f n ∷ [])) (listed q g n) ≡ cond b (listed q g n ++ (g n ∷ [])) (listed q g n)
      go true e = rw (e refl)
      go false e = refl

  all_snoc : (P : A → Type 0) (l : List A) (a : A) → All P l → P a → All P (l ++ (a ∷ []))
  all_snoc P [] a h p = (p, tt)
  all_snoc P (b ∷ l) a h p = (h.0, all_snoc P l a h.1 p)

  pub all_listed : (P : A → Type 0) (p : ℕ → Bool) (f : ℕ → A) (n : ℕ) → ((k : ℕ) → k < n → p k ≡ true → P (f k)) → All P (listed p f n)
  unfolding listed
  all_listed P p f zero h = tt
  all_listed P p f (suc n) h = go (p n) (h n (lt-suc_self n)) (all_listed P p f n (λ k l. h k (le_step l)))
    where
      go : (b : Bool) → (b ≡ true → P (f n)) → All P (listed p f n) → All P (cond b (listed p f n ++ (f n ∷ [])) (listed p f n))
      go true e r = all_snoc P (listed p f n) (f n) r (e refl)
      go false e r = r

  -- how many of a list pass
  unfoldable pub count : (A → Bool) → List A → ℕ
  count p [] = 0
  count p (a ∷ l) = cond (p a) (count p l + 1) (count p l)

  count-snoc : (p : A → Bool) (l : List A) (a : A) → count p (l ++ (a ∷ [])) ≡ cond (p a) (count p l + 1) (count p l)
  unfolding count
  count-snoc p [] a = refl
  count-snoc p (b ∷ l) a = rw (count-snoc p l a) (go (p b) (p a))
    where
      go : (x y : Bool) → cond x (cond y (count p l + 1) (count p l) + 1) (cond y (count p l + 1) (count p l)) ≡ cond y (cond x (count p l + 1) (count p l) + 1) (cond x (count p l + 1) (count p l))
      go true true = refl
      go true false = refl
      go false true = refl
      go false false = refl

  pub count-listed : (q : A → Bool) (p : ℕ → Bool) (f : ℕ → A) (n : ℕ) → count q (listed p f n) ≡ tally (λ (k : ℕ). p k && q (f k)) n
  unfolding count listed tally
  count-listed q p f zero = refl
  count-listed q p f (suc n) = go (p n) (count-listed q p f n)
    where
      go : (b : Bool) → count q (listed p f n) ≡ tally (λ (k : ℕ). p k && q (f k)) n
          → count q (cond b (listed p f n ++ (f n ∷ [])) (listed p f n)) ≡ cond (b && q (f n)) (tally (λ (k : ℕ). p k && q (f k)) n + 1) (tally (λ (k : ℕ). p k && q (f k)) n)
      go true e = count-snoc q (listed p f n) (f n) ∙ rw e
      go false e = e

module _ {A B : Type 0} where
  -- over the f k that pass, as a fold over all k
  pub over-listed : (step : A → B → A) (a : A) (p : ℕ → Bool) (f : ℕ → B) (n : ℕ) → over step a (listed p f n) ≡ fold (λ k b. cond (p k) (step b (f k)) b) a n
  unfolding listed fold
  over-listed step a p f zero = refl
  over-listed step a p f (suc n) = go (p n) (over-listed step a p f n)
    where
      go : (b : Bool) → over step a (listed p f n) ≡ fold (λ k b. cond (p k) (step b (f k)) b) a n
          → over step a (cond b (listed p f n ++ (f n ∷ [])) (listed p f n)) ≡ cond b (step (fold (λ k b. cond (p k) (step b (f k)) b) a n) (f n)) (fold (λ k b. cond (p k) (step b (f k)) b) a n)
      go true h = fold_push step a (listed p f n) (f n) ∙ ap (λ b. step b (f n)) h
      go false h = h

-- ---- the numbers that pass, kept in an array

pub gathered_none : (p : ℕ → Bool) (l : List ℕ) → Gathered p 0 l 0
gathered_none p l = record { few = omega arith; held = sym (listed-none p (λ (k : ℕ). k)); each = λ i h. absurd (omega arith) }

pub gathered-skip : (p : ℕ → Bool) (n : ℕ) (l : List ℕ) (c : ℕ) → Gathered p n l c → p n ≡ false → Gathered p (n + 1) l c
gathered-skip p n l c g e = record {
  few = omega (arith, g.few);
  held = rw (listed_more p (λ (k : ℕ). k) n, e) g.held;
  each = λ i h. omega (arith, g.each i h);
}

pub gathered-put : (p : ℕ → Bool) (n : ℕ) (l : List ℕ) (c : ℕ) → n < length l → Gathered p n l c → p n ≡ true → Gathered p (n + 1) (set l c n) (c + 1)
gathered-put p n l c h g e = record {
  few = omega (arith, g.few);
  held = rw (listed_more p (λ (k : ℕ). k) n, e, add-one c, take-suc-set l c n (omega (arith, g.few)), g.held);
  each = λ i m. below_more (λ (i : ℕ). get_or (set l c n) i 0 < n + 1) c (λ k kc. let ne : k ≡ c → ⊥ = λ q. omega arith in rw get_or-set_other (omega (arith, g.each k kc))) (rw (get_or-set_same l c n 0 (omega (arith, g.few))) (omega arith)) i m;
}

-- ---- what is read after a run of stores

module _ {A : Type 0} where
  pub stored-out : (l s : List A) (at i : ℕ) (d : A) → (i < at) ⊎ (at + length s ≤ i) → get_or (sets l at s) i d ≡ get_or l i d
  stored-out l [] at i d h = refl
  stored-out l (a ∷ s) at i d (inl h) =
      let ne : (i ≡ at → ⊥) = λ q. omega arith in stored-out (set l at a) s (suc at) i d (inl (omega arith)) ∙ get_or-set_other l at i a d ne
  stored-out l (a ∷ s) at i d (inr h) =
      let ne : (i ≡ at → ⊥) = λ q. omega arith in stored-out (set l at a) s (suc at) i d (inr (omega arith)) ∙ get_or-set_other l at i a d ne

  pub stored-in : (l s : List A) (at j : ℕ) (d : A) → at + length s ≤ length l → j < length s → get_or (sets l at s) (at + j) d ≡ get_or s j d
  stored-in l [] at j d h m = absurd (omega arith)
  stored-in l (a ∷ s) at zero d h m =
      let z : at + 0 ≡ at = omega arith in rw z (stored-out (set l at a) s (suc at) at d (inl (omega arith)) ∙ get_or-set_same l at a d (omega arith))
  stored-in l (a ∷ s) at (suc j) d h m =
      let w : at + suc j ≡ suc at + j = omega arith in rw w (stored-in (set l at a) s (suc at) j d (omega (arith, length-set l at a)) (omega arith))
