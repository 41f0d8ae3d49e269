-- Rounds, for any test of ends: the state after one round more, that there are no more rounds than indices that go, and that they end.
-- Assumes nothing.
use mathlib.Core.Path.{◌≡◌, refl, sym, ap, ◌∙◌}
use mathlib.Core.Bool.{Bool, true, false, not, ◌&&◌, ◌||◌, true≢false, false≢true}
use mathlib.Core.Logic.{⊎_elim}
use mathlib.Core.List.{List}
use Prim.{yes, no}
use Prim.Native.Nat.{ℕ, zero, suc, ◌+◌, ◌≤◌, ◌<◌, zero-le}
use native.Mathlib.Nat.{eq-or-lt_of_le}
use native.Mathlib.Decide.{dec_lt}
use native.Mathlib.Numerals.{add-one}
use native.Mathlib.Omega.{arith}
use borrow.Author.Tests.{eq-eqb, eqb-true}
use lib.Dec.{eqb}
use Rattle.folds.specs.Below.{tally}
use Rattle.folds.proofs.Below.{some-yes, some_at, some-no, tally-le, first-le, first_holds, first-before, first-hit, first-miss}
use Rattle.folds.proofs.Lists.{list_at, list_over}
use Rattle.folds.proofs.Column.{replicate-at}
use Rattle.folds.proofs.Marked.{bit_is}
use Rattle.marks.specs.Marks.{is_set}
use Rattle.peel.specs.Peel.{goes, gone_after, ended, rounds_in}
use Rattle.folds.proofs.Counting.{tally-grows, tally-full}
use Rattle.std.proofs.lemmas.Bool.{and_from, and_parts, false_from_ne_true, not-false, or_left, or_right}

-- what is asked of the test: an end is a rank whose index has not gone, and the places of indices are ranks
pub record Ends (n : ℕ) (by_idx : ℕ → ℕ) (ends : (ℕ → Bool) → ℕ → Bool) : Type 0 where
  pub rank : (gone : ℕ → Bool) (k : ℕ) → ends gone k ≡ true → k < n
  pub stays : (gone : ℕ → Bool) (k : ℕ) → ends gone k ≡ true → gone (by_idx k) ≡ false
  pub place : (k : ℕ) → k < n → by_idx k < n

module _ (n : ℕ) (by_idx : ℕ → ℕ) (ends : (ℕ → Bool) → ℕ → Bool) where
  -- the index of an end goes, and one that goes has an end
  pub end_goes : (gone : ℕ → Bool) (k : ℕ) → k < n → ends gone k ≡ true → goes n by_idx ends gone (by_idx k) ≡ true
  end_goes gone k h e = some-yes _ n k h (and_from (ends gone k) (eqb (by_idx k) (by_idx k)) e (eq-eqb (by_idx k) (by_idx k) refl))

  pub goes_end : (gone : ℕ → Bool) (b : ℕ) → goes n by_idx ends gone b ≡ true → (k : ℕ) × (k < n) × (ends gone k ≡ true) × (by_idx k ≡ b)
  goes_end gone b e =
      let w = some_at (λ (k : ℕ). ends gone k && eqb (by_idx k) b) n e in
      (w.0, w.1, (and_parts (ends gone w.0) (eqb (by_idx w.0) b) w.2).0, eqb-true (by_idx w.0) b (and_parts (ends gone w.0) (eqb (by_idx w.0) b) w.2).1)

module _ (n : ℕ) (by_idx : ℕ → ℕ) (ends : (ℕ → Bool) → ℕ → Bool) (known : Ends n by_idx ends) where
  abbrev after : ℕ → List ℕ
  after = gone_after n by_idx ends

  -- has gone after r rounds
  abbrev out : ℕ → ℕ → Bool
  out r = is_set (after r)

  abbrev is_end : ℕ → ℕ → Bool
  is_end r = ends (out r)

  abbrev over : ℕ → Bool
  over = ended n by_idx ends after

  pub goes-within : (gone : ℕ → Bool) (b : ℕ) → goes n by_idx ends gone b ≡ true → b < n
  goes-within gone b e = let w = goes_end n by_idx ends gone b e in omega (arith, known.place w.0 w.1, w.3)

  -- ---- one round more

  pub gone-first : (b : ℕ) → out 0 b ≡ false
  unfolding gone_after
  gone-first b = ap (λ (m : ℕ). eqb m 1) (replicate-at n 0 b)

  pub gone-below : (r b : ℕ) → out r b ≡ true → b < n
  unfolding gone_after
  gone-below zero b e = absurd (false≢true (sym (gone-first b) ∙ e))
  gone-below (suc r) b e = elim (dec_lt b n) [ yes h ↦ h | no f ↦ absurd (false≢true (sym (ap (λ (m : ℕ). eqb m 1) (list_over n _ b 0 (omega (arith, f)))) ∙ e)) ]

  pub gone-next : (r b : ℕ) → out (r + 1) b ≡ out r b || goes n by_idx ends (out r) b
  unfolding gone_after
  gone-next r b = rw (add-one r) (elim (dec_lt b n) [
    | yes h ↦ ap (λ (m : ℕ). eqb m 1) (list_at n _ b 0 h) ∙ bit_is (out r b || goes n by_idx ends (out r) b)
    | no f ↦
        ap (λ (m : ℕ). eqb m 1) (list_over n _ b 0 (omega (arith, f)))
        ∙ sym (rw (false_from_ne_true (out r b) (λ t. f (gone-below r b t)), false_from_ne_true (goes n by_idx ends (out r) b) (λ t. f (goes-within (out r) b t))))
  ])

  module _ (r : ℕ) where
    -- what has gone stays so
    pub gone-more : (b : ℕ) → out r b ≡ true → out (r + 1) b ≡ true
    gone-more b e = gone-next r b ∙ or_left (out r b) (goes n by_idx ends (out r) b) e

    pub end-gone : (k : ℕ) → is_end r k ≡ true → out (r + 1) (by_idx k) ≡ true
    end-gone k e = gone-next r (by_idx k) ∙ or_right (out r (by_idx k)) (goes n by_idx ends (out r) (by_idx k)) (end_goes n by_idx ends (out r) k (known.rank (out r) k e) e)

    -- where an end is, the rounds have not ended
    pub not-over : (k : ℕ) → is_end r k ≡ true → over r ≡ false
    not-over k e = ap not (some-yes (is_end r) n k (known.rank (out r) k e) e)

    pub is-over : ((k : ℕ) → is_end r k ≡ true → ⊥) → over r ≡ true
    is-over f = ap not (some-no (is_end r) n (λ k h. false_from_ne_true (is_end r k) (f k)))

    pub over_none : over r ≡ true → (k : ℕ) → is_end r k ≡ false
    over_none e k = false_from_ne_true (is_end r k) (λ t. true≢false (sym e ∙ not-over k t))

    some_end : over r ≡ false → (k : ℕ) × (k < n) × (is_end r k ≡ true)
    some_end e = some_at (is_end r) n (not-false _ e)

    more-out : over r ≡ false → tally (out r) n < tally (out (r + 1)) n
    more-out e =
        let w = some_end e in
        tally-grows (out r) (out (r + 1)) n (by_idx w.0) (known.place w.0 w.1) (known.stays (out r) w.0 w.2) (end-gone w.0 w.2) (λ b h. gone-more b)

  -- ---- how many rounds

  -- each round before an end removes an index
  pub rounds-out : (r : ℕ) → ((s : ℕ) → s < r → over s ≡ false) → r ≤ tally (out r) n
  rounds-out zero busy = zero-le
  rounds-out (suc r) busy =
      let z : suc r ≡ r + 1 = omega arith in
      rw z (omega (arith, more-out r (busy r (omega arith)), rounds-out r (λ s h. busy s (omega arith))))

  abbrev rounds : ℕ
  rounds = rounds_in n by_idx ends after

  pub busy-before : (s : ℕ) → s < rounds → over s ≡ false
  unfolding rounds_in
  busy-before s h = first-before over 0 n s zero-le h

  -- there are no more rounds than indices that go, and no more than n
  pub rounds-gone : rounds ≤ tally (out rounds) n
  rounds-gone = rounds-out rounds busy-before

  pub rounds-few : rounds ≤ n
  unfolding rounds_in
  rounds-few = first-le over 0 n zero-le

  ends-first : rounds < n → over rounds ≡ true
  unfolding rounds_in
  ends-first h = first_holds over 0 n h

  -- the bound n is never what stops the search: after the rounds none goes any more
  pub rounds-end : over rounds ≡ true
  rounds-end = ⊎_elim all-out ends-first (eq-or-lt_of_le rounds-few)
    where
      all-out : rounds ≡ n → over rounds ≡ true
      all-out d = is-over rounds (λ k e. true≢false (sym (tally-full (out rounds) n (omega (arith, d, rounds-gone)) (by_idx k) (known.place k (known.rank (out rounds) k e))) ∙ known.stays (out rounds) k e))

  -- the first state from which none goes
  pub rounds-are : (r : ℕ) → ((s : ℕ) → s < r → over s ≡ false) → over r ≡ true → rounds ≡ r
  unfolding rounds_in
  rounds-are r busy e =
      ⊎_elim
      (λ (d : r ≡ n). first-miss over n (λ j h. busy j (omega arith)) ∙ sym d)
      (λ (d : r < n). first-hit over n r d e busy)
      (eq-or-lt_of_le (omega (arith, rounds-out r busy, tally-le (out r) n)))
