-- Entries put into an array. Assumes nothing.
use mathlib.Core.Path.{◌≡◌, refl, sym, ap, ◌∙◌}
use mathlib.Core.List.{List}
use Prim.Native.Nat.{ℕ, ◌+◌, ◌-◌, ◌≤◌, ◌<◌}
use Prim.{Dec, yes, no}
use native.Mathlib.Omega.{arith}
use native.Mathlib.Decide.{dec_lt}
use lib.Dec.{leb}
use lib.ListN.{length, set, length-set, get_or-eq_default}
use lib.Seq.{ext_get_or, get_or-set_same, get_or-set_other}
use borrow.Author.Tests.{lt-ltb, le-ltb, le-leb, lt-leb}
use Rattle.folds.proofs.Lists.{length-list, list_at, list_over}
use Rattle.grid.specs.Tables.{splice, spliced, entry_in}
use Rattle.std.proofs.Math.Bool.{and-false}

-- ---- by place

module _ (from n : ℕ) (f rest : ℕ → ℕ) where
  pub splice_at : (k : ℕ) → k < n → splice from n f rest (from + k) ≡ f k
  splice_at k h =
      let e : from + k - from ≡ k = omega arith in
      rw (le-leb from (from + k) (omega arith), lt-ltb (from + k) (from + n) (omega arith), e)

  pub splice-before : (i : ℕ) → i < from → splice from n f rest i ≡ rest i
  splice-before i h = rw (lt-leb from i h)

  pub splice-after : (i : ℕ) → from + n ≤ i → splice from n f rest i ≡ rest i
  splice-after i h = rw (le-ltb i (from + n) h, and-false (leb from i))

-- a place is before the entries, among them, or after them
by_place : (from n i : ℕ) (P : ℕ → Type 0) → (i < from → P i) → ((k : ℕ) → k < n → P (from + k)) → (from + n ≤ i → P i) → P i
by_place from n i P low mid high = go (dec_lt i from) (dec_lt i (from + n))
  where
    go : Dec (i < from) → Dec (i < from + n) → P i
    go (yes h) d = low h
    go (no x) (yes h) = let e : from + (i - from) ≡ i = omega (arith, x) in rw e at (mid (i - from) (omega (arith, x)))
    go (no x) (no y) = high (omega (arith, y))

pub splice-ext : (from n : ℕ) (f g rest other : ℕ → ℕ) → ((k : ℕ) → k < n → f k ≡ g k) → ((i : ℕ) → rest i ≡ other i) → (i : ℕ) → splice from n f rest i ≡ splice from n g other i
splice-ext from n f g rest other h e i =
    by_place from n i (λ (i : ℕ). splice from n f rest i ≡ splice from n g other i)
    (λ l. splice-before from n f rest i l ∙ e i ∙ sym (splice-before from n g other i l))
    (λ k l. splice_at from n f rest k l ∙ h k l ∙ sym (splice_at from n g other k l))
    (λ l. splice-after from n f rest i l ∙ e i ∙ sym (splice-after from n g other i l))

-- ---- in an array

module _ (from n : ℕ) (f : ℕ → ℕ) (l : List ℕ) where
  pub length-spliced : length (spliced from n f l) ≡ length l
  unfolding spliced
  length-spliced = length-list (length l) (splice from n f (entry_in l))

  spliced-at : (i : ℕ) → i < length l → entry_in (spliced from n f l) i ≡ splice from n f (entry_in l) i
  unfolding spliced
  spliced-at i h = list_at (length l) (splice from n f (entry_in l)) i 0 h

  -- where the entries fit, at every place
  pub spliced-read : from + n ≤ length l → (i : ℕ) → entry_in (spliced from n f l) i ≡ splice from n f (entry_in l) i
  unfolding spliced
  spliced-read fit i = go (dec_lt i (length l))
    where
      go : Dec (i < length l) → entry_in (spliced from n f l) i ≡ splice from n f (entry_in l) i
      go (yes h) = spliced-at i h
      go (no x) =
          list_over (length l) (splice from n f (entry_in l)) i 0 (omega (arith, x))
          ∙ sym (splice-after from n f (entry_in l) i (omega (arith, x)) ∙ get_or-eq_default l 0 (omega (arith, x)))

  -- an array that has the entries, and is as l elsewhere
  pub is-spliced : {r : List ℕ} → length r ≡ length l → ((k : ℕ) → k < n → entry_in r (from + k) ≡ f k) → ((i : ℕ) → i < from → entry_in r i ≡ entry_in l i) → ((i : ℕ) → from + n ≤ i → entry_in r i ≡ entry_in l i) → r ≡ spliced from n f l
  is-spliced {r} long mid low high =
      ext_get_or 0 r (spliced from n f l) (long ∙ sym length-spliced)
      (λ i h.
      by_place from n i (λ (i : ℕ). entry_in r i ≡ splice from n f (entry_in l) i) (λ b. low i b ∙ sym (splice-before from n f (entry_in l) i b)) (λ k b. mid k b ∙ sym (splice_at from n f (entry_in l) k b))
      (λ b. high i b ∙ sym (splice-after from n f (entry_in l) i b))
      ∙ sym (spliced-at i (omega (arith, long))))

pub spliced-none : (from : ℕ) (f : ℕ → ℕ) (l : List ℕ) → l ≡ spliced from 0 f l
spliced-none from f l = is-spliced from 0 f l refl (λ k h. absurd (omega arith)) (λ i h. refl) (λ i h. refl)

-- e more entries
pub spliced-on : (from m e : ℕ) (f g : ℕ → ℕ) (l : List ℕ) {r s : List ℕ} → from + m + e ≤ length l → ((k : ℕ) → k < e → g k ≡ f (m + k)) → r ≡ spliced from m f l → s ≡ spliced (from + m) e g r → s ≡ spliced from (m + e) f l
spliced-on from m e f g l {r} {s} fit h p q =
    is-spliced from (m + e) f l (ap length q ∙ length-spliced (from + m) e g r ∙ long)
    (λ k b. elim (dec_lt k m) [
      | yes y ↦ new (from + k) ∙ splice-before (from + m) e g (entry_in r) (from + k) (omega arith) ∙ old (from + k) ∙ splice_at from m f (entry_in l) k y
      | no x ↦ let a : from + k ≡ from + m + (k - m) = omega (arith, x) in
          let c : m + (k - m) ≡ k = omega (arith, x) in
          ap (entry_in s) a ∙ new (from + m + (k - m)) ∙ splice_at (from + m) e g (entry_in r) (k - m) (omega (arith, x)) ∙ h (k - m) (omega (arith, x)) ∙ ap f c
    ])
    (λ i b. new i ∙ splice-before (from + m) e g (entry_in r) i (omega arith) ∙ old i ∙ splice-before from m f (entry_in l) i b)
    (λ i b. new i ∙ splice-after (from + m) e g (entry_in r) i (omega arith) ∙ old i ∙ splice-after from m f (entry_in l) i (omega arith))
  where
    long : length r ≡ length l
    long = ap length p ∙ length-spliced from m f l

    old : (i : ℕ) → entry_in r i ≡ splice from m f (entry_in l) i
    old i = ap (λ (a : List ℕ). entry_in a i) p ∙ spliced-read from m f l (omega arith) i

    new : (i : ℕ) → entry_in s i ≡ splice (from + m) e g (entry_in r) i
    new i = ap (λ (a : List ℕ). entry_in a i) q ∙ spliced-read (from + m) e g r (omega (arith, long)) i

-- one entry is put in by a store
stored : (l : List ℕ) (at v : ℕ) → at < length l → set l at v ≡ spliced at 1 (λ (k : ℕ). v) l
stored l at v h =
    is-spliced at 1 (λ (k : ℕ). v) l (length-set l at v) (λ k b. let e : at + k ≡ at = omega arith in rw e (get_or-set_same l at v 0 h))
    (λ i b. let ne : (i ≡ at → ⊥) = λ q. omega arith in get_or-set_other l at i v 0 ne) (λ i b. let ne : (i ≡ at → ⊥) = λ q. omega arith in get_or-set_other l at i v 0 ne)

-- one more entry, by a store
pub spliced-more : (from k : ℕ) (f : ℕ → ℕ) (v : ℕ) (l : List ℕ) {r : List ℕ} → from + k < length l → v ≡ f k → r ≡ spliced from k f l → set r (from + k) v ≡ spliced from (k + 1) f l
spliced-more from k f v l {r} fit e p =
    spliced-on from k 1 f (λ (i : ℕ). v) l (omega arith) (λ i b. let z : k + i ≡ k = omega arith in e ∙ sym (ap f z)) p
    (stored r (from + k) v (omega (arith, ap length p, length-spliced from k f l)))
