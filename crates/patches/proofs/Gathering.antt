-- What is kept at labels: what a loop over the ranks leaves at each label. Assumes nothing.
use mathlib.Core.Path.{◌≡◌, sym, ap, ◌∙◌}
use mathlib.Core.Bool.{Bool, true, false, cond}
use mathlib.Core.List.{List}
use Prim.{Dec, yes, no}
use Prim.Native.Nat.{ℕ, ◌+◌, ◌≤◌, ◌<◌}
use native.Mathlib.Decide.{dec_lt}
use native.Mathlib.Omega.{arith}
use borrow.Author.Tests.{eqb-true, lt-ltb, le-ltb, ltb-true}
use lib.Dec.{eqb, ltb}
use lib.ListN.{get_or, set, replicate, length-replicate, get_or-eq_default}
use Rattle.folds.specs.Below.{fold, turn}
use Rattle.folds.proofs.Below.{fold-kept, fold-ext, and-under}
use Rattle.folds.specs.Column.{column}
use Rattle.folds.proofs.Column.{filled, replicate-at}
use Rattle.folds.specs.Scattered.{Scattered, counts}
use Rattle.folds.proofs.Scattered.{scattered-none, scattered-put, scattered-skip}
use Rattle.view.specs.View.{max_points}
use Rattle.std.proofs.Math.Bool.{and-true}
use Rattle.std.proofs.lemmas.Bool.{and_parts, false_from_ne_true}

module _ {A : Type 0} (d : A) (labels : List ℕ) where
  abbrev label : ℕ → ℕ
  label k = get_or labels k 0

  -- an array of d in which each rank below i, if its label is below n, has changed what stands at its label
  abbrev pub AtLabels : ℕ → (ℕ → A → A) → ℕ → List A → Type 0
  AtLabels n g i a = Scattered d (λ (k : ℕ). label k) (λ (k : ℕ). ltb (label k) n) g (replicate max_points d) i a

  module _ (n : ℕ) (g : ℕ → A → A) where
    pub labels-none : AtLabels n g 0 (replicate max_points d)
    labels-none = scattered-none d _ _ g _

    pub labels-put : (i v : ℕ) {a : List A} → n ≤ max_points → v ≡ label i → v < n → AtLabels n g i a → AtLabels n g (i + 1) (set a v (g i (get_or a v d)))
    labels-put i v {a} few e h t = scattered-put d _ _ g _ i v a (omega (arith, length-replicate {A = A} max_points d)) e (lt-ltb (label i) n (omega (arith, e))) t

    pub labels-skip : (i v : ℕ) {a : List A} → v ≡ label i → n ≤ v → AtLabels n g i a → AtLabels n g (i + 1) a
    labels-skip i v {a} e h t = scattered-skip d _ _ g _ i a (le-ltb (label i) n (omega (arith, e))) t

    -- after the last rank: at each label below n what the ranks with that label made of d
    pub labels-column : (a : List A) → n ≤ max_points → AtLabels n g n a → a ≡ column max_points d n (λ (s : ℕ). fold (turn (λ (k : ℕ). eqb (get_or labels k 0) s) g) d n)
    labels-column a few t = filled n few (record {
      long = t.size;
      done = λ s h. at_place s (omega arith) ∙ fold-ext (turn (has s) g) (turn (λ (k : ℕ). eqb (label k) s) g) d n (λ k l b. ap (λ (c : Bool). cond c (g k b) b) (all s h k));
      left = λ s h. rest s h (dec_lt s max_points);
    })
      where
        -- rank k has the label s, below n
        has : ℕ → ℕ → Bool
        has = counts (λ (k : ℕ). label k) (λ (k : ℕ). ltb (label k) n)

        at_place : (s : ℕ) → s < max_points → get_or a s d ≡ fold (turn (has s) g) d n
        at_place s h = rw (replicate-at {A = A} max_points d s) at (t.at s (omega (arith, length-replicate {A = A} max_points d)))

        all : (s : ℕ) → s < n → (k : ℕ) → has s k ≡ eqb (label k) s
        all s h k = and-under (eqb (label k) s) {y = true} (λ e. lt-ltb (label k) n (omega (arith, eqb-true (label k) s e))) ∙ and-true (eqb (label k) s)

        none : (s : ℕ) → n ≤ s → (k : ℕ) → k < n → has s k ≡ false
        none s h k l = false_from_ne_true (has s k) (λ e.
            let same = eqb-true (label k) s (and_parts (eqb (label k) s) (ltb (label k) n) e).0 in
            let low = ltb-true (label k) n (and_parts (eqb (label k) s) (ltb (label k) n) e).1 in
            omega arith)

        rest : (s : ℕ) → n ≤ s → Dec (s < max_points) → get_or a s d ≡ get_or (replicate max_points d) s d
        rest s h (yes l) = at_place s l ∙ fold-kept (has s) g d n (none s h) ∙ sym (replicate-at {A = A} max_points d s)
        rest s h (no f) =
            get_or-eq_default a d (omega (arith, f, t.size, length-replicate {A = A} max_points d)) ∙ sym (replicate-at {A = A} max_points d s)
