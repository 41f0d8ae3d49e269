-- After the search the labels are those of the definition; and what the definition's labels are. Assumes nothing.
use mathlib.Core.Path.{◌≡◌, refl, sym, ◌∙◌}
use mathlib.Core.Bool.{Bool, true, false, false≢true}
use mathlib.Core.List.{List}
use Prim.Native.Nat.{ℕ, ◌≤◌, ◌<◌}
use native.Mathlib.Omega.{arith}
use lib.ListN.{get_or, length-replicate}
use Rattle.folds.specs.Below.{first}
use Rattle.folds.proofs.Column.{column-at, column-over, filled, replicate-at}
use Rattle.view.specs.View.{max_points}
use Rattle.patches.specs.Patches.{survives, linked, test, via, labels_by, labels_of}
use Rattle.patches.specs.Reach.{here, Labelled}
use Rattle.patches.specs.Search.{Worklist, Searching}
use Rattle.patches.proofs.Surviving.{survives-lt, link-from, link-to}
use Rattle.patches.proofs.Closure.{Joins, first-label, first-none, first-labelled}

module _ (n : ℕ) (near : ℕ → ℕ) (sides dropped : List ℕ) where
  -- links and survivors of a sheet
  abbrev alive : ℕ → Bool
  alive = survives n dropped

  abbrev link : ℕ → ℕ → Bool
  link = linked n near sides dropped

  pub joins : Joins n alive link
  joins = record { from = link-from n near sides dropped; to = link-to n near sides dropped; rank = survives-lt n dropped }

  pub search-labels : (i : ℕ) (m l q : List ℕ) (t : ℕ) → n ≤ i → n ≤ max_points → Worklist m l q t → Searching alive link n i t m l q t → l ≡ labels_of n near sides dropped
  unfolding labels_of labels_by
  search-labels i m l q t end few w c = filled n few (record {
    long = w.labels ∙ sym (length-replicate {A = ℕ} max_points 0);
    done = λ k h. below k h (alive k) refl;
    left = λ k h. c.rest k (λ o. omega (arith, h, survives-lt n dropped k o.0)) ∙ column-over max_points 0 n (λ (k : ℕ). n) k h ∙ sym (replicate-at {A = ℕ} max_points 0 k);
  })
    where
      below : (k : ℕ) → k < n → (b : Bool) → alive k ≡ b → get_or l k 0 ≡ first (λ (a : ℕ). test (via n alive link n) a k) 0 n
      below k h true e = sym (first-label n alive link joins k (get_or l k 0) (c.label k (e, c.done k k (omega arith) (here e))))
      below k h false e =
          let none : alive k ≡ true → ⊥ = λ a. false≢true (sym e ∙ a) in
          c.rest k (λ o. none o.0) ∙ column-at max_points 0 n (λ (k : ℕ). n) k h ∙ sym (first-none n alive link joins k h none)

  -- each label is a place
  label_at : (k : ℕ) → k < n → get_or (labels_of n near sides dropped) k 0 ≡ first (λ (a : ℕ). test (via n alive link n) a k) 0 n
  unfolding labels_of labels_by
  label_at k h = column-at max_points 0 n (λ (k : ℕ). first (λ (a : ℕ). test (via n alive link n) a k) 0 n) k h

  pub label-none : (k : ℕ) → k < n → (alive k ≡ true → ⊥) → get_or (labels_of n near sides dropped) k 0 ≡ n
  label-none k h f = label_at k h ∙ first-none n alive link joins k h f

  pub label-some : (k : ℕ) → alive k ≡ true → Labelled alive link k (get_or (labels_of n near sides dropped) k 0)
  label-some k e = rw (label_at k (survives-lt n dropped k e)) (first-labelled n alive link joins k e)

  pub label-le : (k : ℕ) → alive k ≡ true → get_or (labels_of n near sides dropped) k 0 ≤ k
  label-le k e = (label-some k e).least k (here e)

  -- a rank with a label below n survives
  pub label-lives : (k : ℕ) → k < n → get_or (labels_of n near sides dropped) k 0 < n → alive k ≡ true
  label-lives k h l = go (alive k) refl
    where
      go : (b : Bool) → alive k ≡ b → alive k ≡ true
      go true e = e
      go false e = absurd (omega (arith, l, label-none k h (λ t. false≢true (sym e ∙ t))))
