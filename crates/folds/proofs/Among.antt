-- Neither test depends on the order of the list; and what they say of a list by number. Assumes nothing.
use Rattle.std.specs.List.{list_any}
use mathlib.Core.Path.{◌≡◌, refl, sym, ap, ◌∙◌}
use mathlib.Core.Bool.{Bool, true, false, ◌||◌, true≢false}
use mathlib.Core.List.{List, [], ◌∷◌, Permᴰ}
use mathlib.Core.Logic.{⊎_elim}
use Prim.Native.Nat.{ℕ, zero, suc, ◌+◌, ◌≤◌, ◌<◌}
use native.Mathlib.Nat.{eq-or-lt_of_le}
use native.Mathlib.Omega.{arith}
use Rattle.folds.specs.Below.{some}
use Rattle.folds.proofs.Below.{some_at, some-fails}
use Rattle.folds.specs.Lists.{All, up_from, list_of}
use Rattle.folds.specs.Among.{pair_in}
use Rattle.std.proofs.Math.Bool.{or-true, or_assoc, or_comm}

or_swap : (a b c : Bool) → a || (b || c) ≡ b || (a || c)
or_swap a b c = sym (or_assoc a b c) ∙ ap (λ (x : Bool). x || c) (or_comm a b) ∙ or_assoc b a c

-- (ab or al) or (bl or l) = (ab or bl) or (al or l)
or-pairs : (ab al bl l : Bool) → (ab || al) || (bl || l) ≡ (ab || bl) || (al || l)
or-pairs ab al bl l = or_assoc ab al (bl || l) ∙ ap (λ (x : Bool). ab || x) (or_swap al bl l) ∙ sym (or_assoc ab bl (al || l))

module _ {A : Type 0} where
  -- where none passes, each fails
  pub none_in : (t : A → Bool) (l : List A) → list_any t l ≡ false → All (λ (a : A). t a ≡ false) l
  none_in t [] e = tt
  none_in t (a ∷ l) e = go (t a) e (none_in t l)
    where
      go : (b : Bool) → b || list_any t l ≡ false → (list_any t l ≡ false → All (λ (a : A). t a ≡ false) l) → (b ≡ false) × All (λ (a : A). t a ≡ false) l
      go true h r = absurd (true≢false h)
      go false h r = (refl, r h)

  pub any_order : (t : A → Bool) {a b : List A} → Permᴰ a b → list_any t a ≡ list_any t b
  any_order t Permᴰ.nil = refl
  any_order t (Permᴰ.cons e p) = cc (ap t e, any_order t p)
  any_order t (Permᴰ.swap {a} {b} {a'} {b'} {l} e f) = or_swap (t a) (t b) (list_any t l) ∙ cc (ap t e, ap t f)
  any_order t (Permᴰ.trans p q) = any_order t p ∙ any_order t q

  pub pair-order : (t : A → A → Bool) → ((x y : A) → t x y ≡ t y x) → {a b : List A} → Permᴰ a b → pair_in t a ≡ pair_in t b
  pair-order t s Permᴰ.nil = refl
  pair-order t s (Permᴰ.cons {a} {b} {l₁} {l₂} e p) = cc (any_order (t a) p, ap (λ (x : A). list_any (t x) l₂) e, pair-order t s p)
  pair-order t s (Permᴰ.swap {a} {b} {a'} {b'} {l} e f) =
      or-pairs (t a b) (list_any (t a) l) (list_any (t b) l) (pair_in t l)
      ∙ cc (s a b, ap (λ (x : A). t x a) f, ap (t a') e, ap (λ (x : A). list_any (t x) l) e, ap (λ (x : A). list_any (t x) l) f)
  pair-order t s (Permᴰ.trans p q) = pair-order t s p ∙ pair-order t s q

  -- ---- of the elements f at, .., f (at + n - 1)

  any-from-yes : (t : A → Bool) (f : ℕ → A) (at n k : ℕ) → at ≤ k → k < at + n → t (f k) ≡ true → list_any t (up_from f at n) ≡ true
  unfolding up_from
  any-from-yes t f at zero k a b e = absurd (omega arith)
  any-from-yes t f at (suc n) k a b e =
      ⊎_elim
      (λ (q : at ≡ k). let h : t (f at) ≡ true = rw q e in rw h)
      (λ (l : at < k). rw (any-from-yes t f (suc at) n k l (omega arith) e) (or-true (t (f at))))
      (eq-or-lt_of_le a)

  any-from-ext : (t u : A → Bool) (f : ℕ → A) (at n : ℕ) → ((k : ℕ) → at ≤ k → k < at + n → t (f k) ≡ u (f k)) → list_any t (up_from f at n) ≡ list_any u (up_from f at n)
  unfolding up_from
  any-from-ext t u f at zero h = refl
  any-from-ext t u f at (suc n) h = rw (h at (omega arith) (omega arith), any-from-ext t u f (suc at) n (λ k a b. h k (omega arith) (omega arith)))

  pair-from-yes : (t : A → A → Bool) (f : ℕ → A) (at n i j : ℕ) → at ≤ i → i < j → j < at + n → t (f i) (f j) ≡ true → pair_in t (up_from f at n) ≡ true
  unfolding up_from
  pair-from-yes t f at zero i j a b c e = absurd (omega arith)
  pair-from-yes t f at (suc n) i j a b c e =
      ⊎_elim
      (λ (q : at ≡ i). rw (any-from-yes (t (f at)) f (suc at) n j (omega arith) (omega arith) (rw q e)))
      (λ (l : at < i). rw (pair-from-yes t f (suc at) n i j l b (omega arith) e) (or-true (list_any (t (f at)) (up_from f (suc at) n))))
      (eq-or-lt_of_le a)

  pair-from-ext : (t u : A → A → Bool) (f : ℕ → A) (at n : ℕ) → ((i j : ℕ) → at ≤ i → i < j → j < at + n → t (f i) (f j) ≡ u (f i) (f j)) → pair_in t (up_from f at n) ≡ pair_in u (up_from f at n)
  unfolding up_from
  pair-from-ext t u f at zero h = refl
  pair-from-ext t u f at (suc n) h = rw (any-from-ext (t (f at)) (u (f at)) f (suc at) n (λ k a b. h at k (omega arith) (omega arith) (omega arith)), pair-from-ext t u f (suc at) n (λ i j a b c. h i j (omega arith) b (omega arith)))

  pub any-never : (l : List A) → list_any (λ (a : A). false) l ≡ false
  any-never [] = refl
  any-never (a ∷ l) = any-never l

  pair-never : (l : List A) → pair_in (λ (a b : A). false) l ≡ false
  pair-never [] = refl
  pair-never (a ∷ l) = rw (any-never l) (pair-never l)

  module _ (f : ℕ → A) (n : ℕ) where
    -- some element of the list is some number's
    pub any-list : (t : A → Bool) → list_any t (list_of n f) ≡ some (λ (k : ℕ). t (f k)) n
    unfolding list_of
    any-list t = go (some (λ (k : ℕ). t (f k)) n) refl
      where
        go : (b : Bool) → some (λ (k : ℕ). t (f k)) n ≡ b → list_any t (up_from f 0 n) ≡ b
        go true e = let w = some_at (λ (k : ℕ). t (f k)) n e in any-from-yes t f 0 n w.0 (omega arith) (omega (arith, w.1)) w.2
        go false e = any-from-ext t (λ (a : A). false) f 0 n (λ k a b. some-fails (λ (k : ℕ). t (f k)) n e k (omega arith)) ∙ any-never (up_from f 0 n)

    pub pair-yes : (t : A → A → Bool) (i j : ℕ) → i < j → j < n → t (f i) (f j) ≡ true → pair_in t (list_of n f) ≡ true
    unfolding list_of
    pair-yes t i j a b e = pair-from-yes t f 0 n i j (omega arith) a (omega arith) e

    pub pair-ext : (t u : A → A → Bool) → ((i j : ℕ) → i < j → j < n → t (f i) (f j) ≡ u (f i) (f j)) → pair_in t (list_of n f) ≡ pair_in u (list_of n f)
    unfolding list_of
    pair-ext t u h = pair-from-ext t u f 0 n (λ i j a b c. h i j b (omega arith))

    pub pair-no : (t : A → A → Bool) → ((i j : ℕ) → i < j → j < n → t (f i) (f j) ≡ false) → pair_in t (list_of n f) ≡ false
    pair-no t h = pair-ext t (λ (a b : A). false) h ∙ pair-never (list_of n f)
