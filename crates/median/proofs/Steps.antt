-- One number more, and the middle of the sorted patterns. Assumes nothing.
use mathlib.Core.Path.{◌≡◌, refl, sym, ap, ◌∙◌}
use mathlib.Core.Bool.{Bool, true, false, cond}
use mathlib.Core.List.{List, [], ◌∷◌, ◌++◌}
use Prim.Native.Nat.{ℕ, ◌+◌, ◌/◌, ◌<◌}
use native.Mathlib.Nat.{eq-or-lt_of_le}
use mathlib.Core.Logic.{⊎_elim}
use native.Mathlib.Omega.{arith}
use lib.Dec.{T, ltb}
use lib.ListN.{length, get_or, length-map}
use lib.Ieee.{Float, nan, binary32, lt, fits, to_bits}
use lib.Ieee.Positive.{above}
use Rattle.std.proofs.lemmas.List.{map-append, get_or-map}
use Rattle.folds.specs.Below.{tally}
use Rattle.folds.proofs.Below.{tally-turn}
use Rattle.folds.specs.Lists.{All, listed}
use Rattle.folds.proofs.Lists.{all_listed, listed_more}
use Rattle.sort.specs.Sorted.{sort}
use Rattle.view.specs.View.{max_points}
use Rattle.sort.proofs.Sorted.{all-at, sort-length, sort-all, sort-map}
use Rattle.float.proofs.Order.{above_zero}
use Rattle.float.proofs.Bits.{bits-order}
use Rattle.median.specs.Median.{median_of}
use Rattle.median.specs.Packed.{positive_at, positives, patterns, Put, Packed}
use Rattle.median.proofs.Sorting.{agree-all}

-- an f32 above zero
abbrev pub AboveZero : Float → Type 0
AboveZero a = T (above a) × T (fits binary32 a)

pub packed_none : (v : List Float) (b : List ℕ) → length b ≡ max_points → Packed v 0 0 b
unfolding tally positives
packed_none v b h = record { size = h; count = refl; taken = refl; float = λ j l. absurd (omega arith) }

pub packed_more : (v : List Float) (k : ℕ) {c r : ℕ} {a b : List ℕ} → Packed v k c a → Put (get_or v k nan) c r a b → Packed v (k + 1) r b
unfolding positives
packed_more v k {c} {r} {a} {b} q p = record {
  size = p.size;
  count = tally-turn (positive_at v) k p.count refl q.count;
  taken = p.taken ∙ rw (q.taken, listed_more (positive_at v) (λ (j : ℕ). get_or v j nan) k) (go (positive_at v k));
  float = λ j l. ⊎_elim (λ (e : j ≡ k). rw e p.float) (λ (m : j < k). q.float j m) (eq-or-lt_of_le (omega arith));
}
  where
    before : List Float
    before = listed (positive_at v) (λ (j : ℕ). get_or v j nan) k

    go : (t : Bool) → cond t (patterns before ++ (to_bits binary32 (get_or v k nan) ∷ [])) (patterns before) ≡ patterns (cond t (before ++ (get_or v k nan ∷ [])) before)
    go true = sym (map-append (to_bits binary32) before (get_or v k nan ∷ []))
    go false = refl

pub patterns-length : (l : List Float) {b : List ℕ} → b ≡ patterns l → length l ≡ length b
patterns-length l e = sym (ap length e ∙ length-map l (to_bits binary32))

-- after the sort of the patterns
module _ (v : List Float) (n : ℕ) (a b : List ℕ) (p : a ≡ patterns (positives v n)) (float : (j : ℕ) → j < n → T (fits binary32 (get_or v j nan))) (some : length a ≡ 0 → ⊥) (s : b ≡ sort ltb a) where
  all-ok : All AboveZero (positives v n)
  unfolding positives
  all-ok = all_listed AboveZero (positive_at v) (λ (j : ℕ). get_or v j nan) n (λ k i e. (above_zero (get_or v k nan) e, float k i))

  long : length (positives v n) ≡ length b
  long = patterns-length (positives v n) p ∙ sym (ap length s ∙ sort-length ltb a)

  inside : length b / 2 < length (sort lt (positives v n))
  inside = omega (arith, sort-length lt (positives v n), long, patterns-length (positives v n) p, some)

  sorted-at : (i : ℕ) → i < length (sort lt (positives v n)) → get_or b i 0 ≡ to_bits binary32 (get_or (sort lt (positives v n)) i nan)
  sorted-at i h =
      rw (s, p, sort-map (to_bits binary32) lt ltb (positives v n) (agree-all (to_bits binary32) lt ltb AboveZero (λ a b p q. bits-order a b p.0 q.0 p.1 q.1) (positives v n) all-ok))
      (get_or-map (to_bits binary32) (sort lt (positives v n)) i nan 0 h)

  pub middle-is : get_or b (length b / 2) 0 ≡ to_bits binary32 (median_of (positives v n))
  unfolding median_of
  middle-is = rw long (sorted-at (length b / 2) inside)

  pub middle-fits : AboveZero (median_of (positives v n))
  unfolding median_of
  middle-fits = rw long (all-at AboveZero nan (sort lt (positives v n)) (sort-all lt AboveZero (positives v n) all-ok) (length b / 2) inside)
