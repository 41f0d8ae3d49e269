-- What is read of a column, and a loop that fills an array from its front. Assumes nothing.
use mathlib.Core.Path.{◌≡◌, refl, sym, ap, ◌∙◌}
use mathlib.Core.Logic.{◌⊎◌, inl, inr}
use Prim.{Dec, yes, no}
use Prim.Native.Nat.{ℕ, zero, suc, ◌+◌, ◌-◌, ◌≤◌, ◌<◌}
use native.Mathlib.Omega.{arith}
use native.Mathlib.Nat.{eq-or-lt_of_le}
use native.Mathlib.Decide.{dec_lt}
use mathlib.Core.List.{List, ◌++◌}
use lib.ListN.{length, get_or, set, drop, replicate, length-replicate, length-set, length-append, length-drop, get_or-append}
use lib.Seq.{get_or-set_same, get_or-set_other, ext_get_or, get_or-append-add, get_or-drop}
use Rattle.folds.specs.Lists.{list_of}
use Rattle.folds.proofs.Lists.{length-list, list_at, list_over, list_ext, past_end}
use Rattle.folds.specs.Column.{column, overlaid, Filling}

module _ {A : Type 0} where
  pub replicate-at : (size : ℕ) (d : A) (k : ℕ) → get_or (replicate size d) k d ≡ d
  replicate-at zero d k = past_end d k
  replicate-at (suc size) d zero = refl
  replicate-at (suc size) d (suc k) = replicate-at size d k

  after-at : (n : ℕ) (f : ℕ → A) (r : List A) (k : ℕ) (d : A) → k < n → get_or (list_of n f ++ r) k d ≡ f k
  after-at n f r k d h = get_or-append (list_of n f) r d k (omega (arith, length-list n f)) ∙ list_at n f k d h

  after-over : (n : ℕ) (f : ℕ → A) (r : List A) (k : ℕ) (d : A) → n ≤ k → get_or (list_of n f ++ r) k d ≡ get_or r (k - n) d
  after-over n f r k d h =
      let e : length (list_of n f) + (k - n) ≡ k = omega (arith, length-list n f) in
      rw e at (get_or-append-add (list_of n f) r (k - n) d)

  pub length-column : (size : ℕ) (d : A) (n : ℕ) (f : ℕ → A) → n ≤ size → length (column size d n f) ≡ size
  unfolding column
  length-column size d n f h = simp (length-append, length-list, length-replicate) (omega arith)

  pub column-at : (size : ℕ) (d : A) (n : ℕ) (f : ℕ → A) (k : ℕ) → k < n → get_or (column size d n f) k d ≡ f k
  unfolding column
  column-at size d n f k h = after-at n f (replicate (size - n) d) k d h

  pub column-over : (size : ℕ) (d : A) (n : ℕ) (f : ℕ → A) (k : ℕ) → n ≤ k → get_or (column size d n f) k d ≡ d
  unfolding column
  column-over size d n f k h = after-over n f (replicate (size - n) d) k d h ∙ replicate-at (size - n) d (k - n)

  -- what is read of a column is what is read of its list
  pub column-list : (size : ℕ) (d : A) (n : ℕ) (f : ℕ → A) (k : ℕ) → get_or (column size d n f) k d ≡ get_or (list_of n f) k d
  column-list size d n f k = go (dec_lt k n)
    where
      go : Dec (k < n) → get_or (column size d n f) k d ≡ get_or (list_of n f) k d
      go (yes h) = column-at size d n f k h ∙ sym (list_at n f k d h)
      go (no h) = column-over size d n f k (omega (arith, h)) ∙ sym (list_over n f k d (omega (arith, h)))

  pub column-ext : (size : ℕ) (d : A) (n : ℕ) (f g : ℕ → A) → ((k : ℕ) → k < n → f k ≡ g k) → column size d n f ≡ column size d n g
  unfolding column
  column-ext size d n f g h = ap (λ (l : List A). l ++ replicate (size - n) d) (list_ext d n f g h)

  module _ (l₀ : List A) (d : A) (f : ℕ → A) where
    pub fill_start : Filling l₀ d f 0 l₀
    fill_start = record { long = refl; done = λ k h. absurd (omega arith); left = λ k h. refl }

    pub fill_more : {i : ℕ} {l : List A} (v : A) → i < length l₀ → v ≡ f i → Filling l₀ d f i l → Filling l₀ d f (i + 1) (set l i v)
    fill_more {i} {l} v h e r = record {
      long = length-set l i v ∙ r.long;
      done = λ k m. at k (eq-or-lt_of_le (omega arith));
      left = λ k m. let ne : (k ≡ i → ⊥) = λ q. omega arith in get_or-set_other l i k v d ne ∙ r.left k (omega arith);
    }
      where
        at : (k : ℕ) → (k ≡ i) ⊎ (k < i) → get_or (set l i v) k d ≡ f k
        at k (inl q) = rw (q, get_or-set_same l i v d (omega (arith, r.long))) e
        at k (inr m) = let ne : (k ≡ i → ⊥) = λ q. omega arith in get_or-set_other l i k v d ne ∙ r.done k m

    -- a lent buffer: the rest stays
    pub filled-over : {l : List A} (n : ℕ) → n ≤ length l₀ → Filling l₀ d f n l → l ≡ overlaid n f l₀
    unfolding overlaid
    filled-over {l} n h r =
        ext_get_or d l (list_of n f ++ drop n l₀) (r.long ∙ sym (simp (length-append, length-list, length-drop) (omega arith))) (λ k m. go k (dec_lt k n))
      where
        go : (k : ℕ) → Dec (k < n) → get_or l k d ≡ get_or (list_of n f ++ drop n l₀) k d
        go k (yes y) = r.done k y ∙ sym (after-at n f (drop n l₀) k d y)
        go k (no x) =
            let e : n + (k - n) ≡ k = omega (arith, x) in
            r.left k (omega (arith, x)) ∙ sym (after-over n f (drop n l₀) k d (omega (arith, x)) ∙ get_or-drop n l₀ (k - n) d ∙ ap (λ (j : ℕ). get_or l₀ j d) e)

  -- an array of one's own: the rest is d
  pub filled : {size : ℕ} {d : A} {f : ℕ → A} {l : List A} (n : ℕ) → n ≤ size → Filling (replicate size d) d f n l → l ≡ column size d n f
  unfolding column
  filled {size} {d} {f} {l} n h r =
      ext_get_or d l (list_of n f ++ replicate (size - n) d) (r.long ∙ simp (length-append, length-list, length-replicate) (omega arith)) (λ k m. go k (dec_lt k n))
    where
      go : (k : ℕ) → Dec (k < n) → get_or l k d ≡ get_or (list_of n f ++ replicate (size - n) d) k d
      go k (yes y) = r.done k y ∙ sym (after-at n f (replicate (size - n) d) k d y)
      go k (no x) =
          r.left k (omega (arith, x)) ∙ replicate-at size d k
          ∙ sym (after-over n f (replicate (size - n) d) k d (omega (arith, x)) ∙ replicate-at (size - n) d (k - n))
