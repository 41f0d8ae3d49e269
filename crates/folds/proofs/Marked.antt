-- Marks as bits, how many are set, and how marks compose. Assumes nothing.
use mathlib.Core.Path.{◌≡◌, refl, sym, ◌∙◌}
use mathlib.Core.Bool.{Bool, true, false, cond, ◌||◌}
use mathlib.Core.List.{List}
use Prim.Native.Nat.{ℕ, ◌+◌, ◌≤◌, ◌<◌}
use native.Mathlib.Omega.{arith}
use native.Mathlib.Decide.{dec_lt}
use Prim.{Dec, yes, no}
use lib.Dec.{eqb}
use borrow.Author.Tests.{eqb-true, eqb-false}
use lib.ListN.{length, get_or, set, length-set, replicate, length-replicate, get_or-eq_default}
use lib.Seq.{get_or-set_same, get_or-set_other}
use Rattle.folds.specs.Below.{some, tally}
use Rattle.folds.proofs.Below.{some_more, tally-none, tally-more}
use Rattle.folds.specs.Column.{column}
use Rattle.folds.proofs.Column.{filled, replicate-at}
use Rattle.folds.specs.Marked.{bit, Marked}

pub bit_is : (b : Bool) → eqb (bit b) 1 ≡ b
bit_is true = refl
bit_is false = refl

pub bit_le : (b : Bool) → bit b ≤ 1
bit_le true = omega arith
bit_le false = omega arith

-- counting is adding up bits
pub tally-bit : (p : ℕ → Bool) (i : ℕ) → tally p (i + 1) ≡ tally p i + bit (p i)
tally-bit p i = tally-more p i ∙ go (p i)
  where
    go : (b : Bool) → cond b (tally p i + 1) (tally p i) ≡ tally p i + bit b
    go true = refl
    go false = omega arith

pub tally-four : (p : ℕ → Bool) → tally p 4 ≡ bit (p 0) + bit (p 1) + bit (p 2) + bit (p 3)
tally-four p = omega (arith, tally-none p, tally-bit p 0, tally-bit p 1, tally-bit p 2, tally-bit p 3)

pub marked-none : (p : ℕ → Bool) (a : List ℕ) → ((m : ℕ) → p m ≡ false) → Marked p a a
marked-none p a h = record { size = refl; at = λ m l. rw (h m) }

pub marked-one : (i : ℕ) (a : List ℕ) → Marked (eqb i) a (set a i 1)
marked-one i a = record { size = length-set a i 1; at = λ m l. go m l (eqb i m) refl }
  where
    go : (m : ℕ) → m < length a → (t : Bool) → eqb i m ≡ t → get_or (set a i 1) m 0 ≡ cond t 1 (get_or a m 0)
    go m l true e = let q : i ≡ m = eqb-true i m e in rw q (get_or-set_same a m 1 0 l)
    go m l false e = get_or-set_other a i m 1 0 (λ q. eqb-false i m e (sym q))

pub marked-as : (p q : ℕ → Bool) {a b : List ℕ} → ((m : ℕ) → m < length a → p m ≡ q m) → Marked p a b → Marked q a b
marked-as p q h r = record { size = r.size; at = λ m l. rw (← h m l) (r.at m l) }

pub marked-then : (p q : ℕ → Bool) {a b c : List ℕ} → Marked p a b → Marked q b c → Marked (λ (m : ℕ). p m || q m) a c
marked-then p q {a} {b} {c} r s = record { size = s.size ∙ r.size; at = λ m l. s.at m (omega (arith, r.size)) ∙ rw (r.at m l) (go (p m) (q m) (get_or a m 0)) }
  where
    go : (x y : Bool) (n : ℕ) → cond y 1 (cond x 1 n) ≡ cond (x || y) 1 n
    go true true n = refl
    go true false n = refl
    go false y n = refl

-- one more turn of a loop over k, each of which hits some places
pub marked_more : (hits : ℕ → ℕ → Bool) (i : ℕ) {a b c : List ℕ} → Marked (λ (m : ℕ). some (λ (k : ℕ). hits k m) i) a b → Marked (hits i) b c
    → Marked (λ (m : ℕ). some (λ (k : ℕ). hits k m) (i + 1)) a c
marked_more hits i r s =
    marked-as (λ (m : ℕ). some (λ (k : ℕ). hits k m) i || hits i m) (λ (m : ℕ). some (λ (k : ℕ). hits k m) (i + 1)) (λ m l. sym (some_more (λ (k : ℕ). hits k m) i))
    (marked-then (λ (m : ℕ). some (λ (k : ℕ). hits k m) i) (hits i) r s)

-- marks set in an array of zeros are a column, where no place from n on is hit
pub marked-column : (hit : ℕ → Bool) (size n : ℕ) {b : List ℕ} → n ≤ size → ((m : ℕ) → n ≤ m → hit m ≡ false) → Marked hit (replicate size 0) b → b ≡ column size 0 n (λ (m : ℕ). bit (hit m))
marked-column hit size n {b} h none r =
    filled n h (record { long = r.size; done = λ k l. shown k (omega arith); left = λ k l. rest k l (dec_lt k size) })
  where
    set-or-not : (t : Bool) → cond t 1 0 ≡ bit t
    set-or-not true = refl
    set-or-not false = refl

    shown : (k : ℕ) → k < size → get_or b k 0 ≡ bit (hit k)
    shown k l = r.at k (omega (arith, length-replicate {A = ℕ} size 0)) ∙ rw (replicate-at {A = ℕ} size 0 k) (set-or-not (hit k))

    rest : (k : ℕ) → n ≤ k → Dec (k < size) → get_or b k 0 ≡ get_or (replicate size 0) k 0
    rest k l (yes m) = shown k m ∙ rw (none k l) (sym (replicate-at {A = ℕ} size 0 k))
    rest k l (no m) =
        get_or-eq_default b 0 (omega (arith, m, r.size, length-replicate {A = ℕ} size 0)) ∙ sym (replicate-at {A = ℕ} size 0 k)
