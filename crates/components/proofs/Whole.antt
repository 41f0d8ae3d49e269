-- The theorems on patches: labels agree just where one survivor is reached from the other; the count is how many whole patches there are;
-- the winner is the largest of them, with the smallest least cell of equals. They ask that the table of neighbours is mirrored and that
-- the list has each offset's opposite. Assumes nothing.
use mathlib.Core.Path.{◌≡◌, refl, sym, ap, ◌∙◌}
use mathlib.Core.Bool.{Bool, true, false, cond, false≢true, true≢false}
use mathlib.Core.Logic.{◌⊎◌, inl, inr, ⊎_elim}
use mathlib.Core.List.{List}
use Prim.{yes, no}
use Prim.Native.Nat.{ℕ, zero, suc, ◌+◌, ◌≤◌, ◌<◌}
use native.Mathlib.Decide.{dec_lt}
use native.Mathlib.Nat.{eq-or-lt_of_le}
use native.Mathlib.Omega.{arith}
use borrow.Author.Tests.{eq-eqb, eqb-true, lt-ltb, ltb-true, ltb-false}
use lib.Dec.{eqb, ltb}
use lib.ListN.{get_or}
use Rattle.folds.specs.Below.{first, tally}
use Rattle.folds.proofs.Below.{first_holds, first-before, some-yes, tally-ext, tally-some}
use Rattle.folds.proofs.Column.{column-at}
use Rattle.view.specs.View.{max_points}
use Rattle.patches.specs.Patches.{survives, linked, labels_of}
use Rattle.components.specs.Components.{sizes_of, largest_at, winner_of, in_patch}
use Rattle.patches.specs.Reach.{Reach, here, Mirrored, paired}
use Rattle.components.specs.WholePatches.{WholePatch, Smallest, KeptPatch, PatchesCounted}
use Rattle.patches.specs.Search.{NearPlaces}
use Rattle.patches.proofs.Surviving.{survives-lt}
use Rattle.patches.proofs.Closure.{reach-from, reach-to}
use Rattle.patches.proofs.Labelling.{joins, label-none, label-some, label-le, label-lives}
use Rattle.patches.proofs.Agreeing.{same-label}
use Rattle.components.proofs.Tallies.{largest-le}
use Rattle.std.proofs.lemmas.Bool.{and_from, and_parts, false_from_ne_true}
use Rattle.std.specs.Cmp.{both_ways}
use Rattle.folds.proofs.Counting.{tally-has}

-- a whole patch of ranks below n has a smallest cell
pub smallest : {alive : ℕ → Bool} {link : ℕ → ℕ → Bool} {W : ℕ → Bool} (n : ℕ) → WholePatch alive link W → ((k : ℕ) → W k ≡ true → k < n) → (x : ℕ) × Smallest W x
smallest {W = W} n p below = (x, record { member = first_holds W 0 n (omega (arith, low p.seed seeded, below p.seed seeded)); first = low })
  where
    x : ℕ
    x = first W 0 n

    seeded : W p.seed ≡ true
    seeded = p.outer p.seed (here p.survives)

    low : (k : ℕ) → W k ≡ true → x ≤ k
    low k e = elim (dec_lt k x) [ yes l ↦ absurd (true≢false (sym e ∙ first-before W 0 n k (omega arith) l)) | no f ↦ omega (arith, f) ]

-- ---- the first of the largest

largest-most : (l : List ℕ) (n s : ℕ) → s < n → get_or l s 0 ≤ get_or l (largest_at l n) 0
unfolding largest_at
largest-most l zero s h = absurd (omega arith)
largest-most l (suc n) s h = go (ltb (get_or l (largest_at l n) 0) (get_or l n 0)) refl (eq-or-lt_of_le (omega arith)) (largest-most l n s)
  where
    go : (b : Bool) → ltb (get_or l (largest_at l n) 0) (get_or l n 0) ≡ b → (s ≡ n) ⊎ (s < n) → (s < n → get_or l s 0 ≤ get_or l (largest_at l n) 0) → get_or l s 0 ≤ get_or l (cond b n (largest_at l n)) 0
    go true e (inl q) r = rw q (omega arith)
    go true e (inr m) r = omega (arith, ltb-true (get_or l (largest_at l n) 0) (get_or l n 0) e, r m)
    go false e (inl q) r = rw q (ltb-false (get_or l (largest_at l n) 0) (get_or l n 0) e)
    go false e (inr m) r = r m

largest-before : (l : List ℕ) (n s : ℕ) → s < largest_at l n → get_or l s 0 < get_or l (largest_at l n) 0
unfolding largest_at
largest-before l zero s h = absurd (omega arith)
largest-before l (suc n) s h = go (ltb (get_or l (largest_at l n) 0) (get_or l n 0)) refl h (largest-before l n s)
  where
    go : (b : Bool) → ltb (get_or l (largest_at l n) 0) (get_or l n 0) ≡ b → s < cond b n (largest_at l n) → (s < largest_at l n → get_or l s 0 < get_or l (largest_at l n) 0) → get_or l s 0 < get_or l (cond b n (largest_at l n)) 0
    go true e m r = omega (arith, ltb-true (get_or l (largest_at l n) 0) (get_or l n 0) e, largest-most l n s m)
    go false e m r = r m

largest-lt : (l : List ℕ) (n : ℕ) → 0 < n → largest_at l n < n
unfolding largest_at
largest-lt l zero h = h
largest-lt l (suc n) h = go (ltb (get_or l (largest_at l n) 0) (get_or l n 0)) (largest-le l n)
  where
    go : (b : Bool) → largest_at l n ≤ n → cond b n (largest_at l n) < suc n
    go true e = omega arith
    go false e = omega arith

module _ (n : ℕ) (near : ℕ → ℕ) (sides dropped : List ℕ) where
  abbrev alive : ℕ → Bool
  alive = survives n dropped

  abbrev link : ℕ → ℕ → Bool
  link = linked n near sides dropped

  abbrev labels : List ℕ
  labels = labels_of n near sides dropped

  abbrev label : ℕ → ℕ
  label k = get_or labels k 0

  module _ (placed : NearPlaces sides) (pairs : paired sides ≡ true) (mirror : Mirrored n near) where
    -- ---- patches by their labels

    patch-of : (s k : ℕ) → in_patch n labels s k ≡ true → (k < n) × (label k ≡ s)
    patch-of s k e = (ltb-true k n (and_parts (ltb k n) (eqb (label k) s) e).0, eqb-true (label k) s (and_parts (ltb k n) (eqb (label k) s) e).1)

    patch-is : (s k : ℕ) → alive k ≡ true → label k ≡ s → in_patch n labels s k ≡ true
    patch-is s k a e = and_from (ltb k n) (eqb (label k) s) (lt-ltb k n (survives-lt n dropped k a)) (eq-eqb (label k) s e)

    -- a survivor's patch is what has its label
    patch-in : (a k : ℕ) → alive a ≡ true → in_patch n labels (label a) k ≡ true → Reach alive link a k
    patch-in a k e t =
        let w = patch-of (label a) k t in
        let low = label-le n near sides dropped a e in
        let b = label-lives n near sides dropped k w.0 (omega (arith, w.1, low, survives-lt n dropped a e)) in
        (same-label n near sides dropped placed pairs mirror a k e b).0 (sym w.1)

    patch-out : (a k : ℕ) → alive a ≡ true → Reach alive link a k → in_patch n labels (label a) k ≡ true
    patch-out a k e r = let b = reach-to n alive link (joins n near sides dropped) r in patch-is (label a) k b (sym ((same-label n near sides dropped placed pairs mirror a k e b).1 r))

    with-label : (a : ℕ) → alive a ≡ true → WholePatch alive link (in_patch n labels (label a))
    with-label a e = record { seed = a; survives = e; inner = λ k. patch-in a k e; outer = λ k. patch-out a k e }

    -- and any whole patch is such a one
    by-label : (W : ℕ → Bool) (p : WholePatch alive link W) (k : ℕ) → W k ≡ in_patch n labels (label p.seed) k
    by-label W p k = both_ways (W k) (in_patch n labels (label p.seed) k)
        (λ e. patch-out p.seed k p.survives (p.inner k e))
        (λ e. p.outer k (patch-in p.seed k p.survives e))

    -- the least rank of a patch is its own label
    own-label : (a : ℕ) → alive a ≡ true → (alive (label a) ≡ true) × (label (label a) ≡ label a)
    own-label a e =
        let r = (label-some n near sides dropped a e).reached in
        let b = reach-from n alive link (joins n near sides dropped) r in
        (b, (same-label n near sides dropped placed pairs mirror (label a) a b e).1 r)

    root : (s : ℕ) → s < n → eqb (label s) s ≡ true → (alive s ≡ true) × (label s ≡ s)
    root s h e = let q = eqb-true (label s) s e in (label-lives n near sides dropped s h (omega (arith, q)), q)

    first_of : (s : ℕ) → s < n → eqb (label s) s ≡ true → Smallest (in_patch n labels s) s
    first_of s h e =
        let w = root s h e in
        record { member = patch-is s s w.0 w.1; first = λ k t. let v = patch-of s k t in omega (arith, v.1, label-le n near sides dropped k (label-lives n near sides dropped k v.0 (omega (arith, v.1)))) }

    -- the count: one rank for each whole patch
    pub labels-counted : PatchesCounted alive link n (λ (s : ℕ). eqb (label s) s) (in_patch n labels)
    labels-counted = record {
      whole = λ s h e. let w = root s h e in rw w.1 at (with-label s w.0);
      member = first_of;
      apart = λ s t h g e f same. sym (root s h e).1 ∙ (patch-of t s (sym (same s) ∙ (first_of s h e).member)).1;
      all = λ W p. let w = own-label p.seed p.survives in
          (label p.seed, survives-lt n dropped (label p.seed) w.0, eq-eqb (label (label p.seed)) (label p.seed) w.1, by-label W p);
    }

    -- ---- the winner

    abbrev win : ℕ
    win = winner_of n labels

    size_of : (s : ℕ) → s < n → get_or (sizes_of n labels) s 0 ≡ tally (in_patch n labels s) n
    unfolding sizes_of
    size_of s h =
        column-at max_points 0 n (λ (s : ℕ). tally (λ (k : ℕ). eqb (label k) s) n) s h
        ∙ tally-ext (λ (k : ℕ). eqb (label k) s) (in_patch n labels s) n (λ k l. sym (rw (lt-ltb k n l) refl))

    -- where there is a survivor, the winner is the label of one
    won : (a : ℕ) → alive a ≡ true → (win < n) × (eqb (label win) win ≡ true)
    unfolding winner_of
    won a e =
        let h = survives-lt n dropped a e in
        let l = label-le n near sides dropped a e in
        let w = largest-lt (sizes_of n labels) n (omega arith) in
        let m = largest-most (sizes_of n labels) n (label a) (omega arith) in
        let p = tally-some (in_patch n labels (label a)) n (some-yes (in_patch n labels (label a)) n a h (patch-is (label a) a e refl)) in
        let f = tally-has (in_patch n labels (largest_at (sizes_of n labels) n)) n (omega (arith, m, p, size_of (label a) (omega arith), size_of (largest_at (sizes_of n labels) n) w)) in
        let v = patch-of (largest_at (sizes_of n labels) n) f.0 f.2 in
        let o = own-label f.0 (label-lives n near sides dropped f.0 v.0 (omega (arith, v.1))) in
        (w, eq-eqb (label win) win (rw v.1 at o.1))

    -- what is kept
    pub winner-kept : KeptPatch alive link n (in_patch n labels win)
    unfolding winner_of
    winner-kept = record {
      none = λ f k. false_from_ne_true (in_patch n labels win k) (λ e. no-one f k e);
      whole = λ a e. let w = won a e in labels-counted.whole win w.0 w.1;
      most = as-large;
      tie = ranked;
    }
      where
        no-one : ((a : ℕ) → alive a ≡ false) → (k : ℕ) → in_patch n labels win k ≡ true → ⊥
        no-one f k e = let w = patch-of win k e in omega (arith, w.0, w.1, label-none n near sides dropped k w.0 (λ t. false≢true (sym (f k) ∙ t)), largest-lt (sizes_of n labels) n (omega (arith, w.0)))

        sized : (W : ℕ → Bool) (p : WholePatch alive link W) → (tally W n ≡ get_or (sizes_of n labels) (labels-counted.all W p).0 0) × (tally (in_patch n labels win) n ≡ get_or (sizes_of n labels) win 0)
        sized W p =
            let s = labels-counted.all W p in
            (tally-ext W (in_patch n labels s.0) n (λ k l. s.3 k) ∙ sym (size_of s.0 s.1), sym (size_of win (won p.seed p.survives).0))

        as-large : (W : ℕ → Bool) → WholePatch alive link W → tally W n ≤ tally (in_patch n labels win) n
        as-large W p = omega (arith, (sized W p).0, (sized W p).1, largest-most (sizes_of n labels) n (labels-counted.all W p).0 (labels-counted.all W p).1)

        same : (W : ℕ → Bool) (p : WholePatch alive link W) → tally W n ≡ tally (in_patch n labels win) n → (labels-counted.all W p).0 ≤ win → (labels-counted.all W p).0 ≡ win
        same W p e h =
            ⊎_elim (λ (q : (labels-counted.all W p).0 ≡ win). q)
            (λ (l : (labels-counted.all W p).0 < win). absurd (omega (arith, e, (sized W p).0, (sized W p).1, largest-before (sizes_of n labels) n (labels-counted.all W p).0 l)))
            (eq-or-lt_of_le h)

        ranked : (W : ℕ → Bool) → WholePatch alive link W → tally W n ≡ tally (in_patch n labels win) n → ((k : ℕ) → W k ≡ in_patch n labels win k) ⊎ ((x y : ℕ) → Smallest W x → Smallest (in_patch n labels win) y → y < x)
        ranked W p e =
            let t = labels-counted.all W p in
            let w = won p.seed p.survives in
            elim (dec_lt win t.0) [
              | yes l ↦ inr (λ x y f g. omega (arith, l, (first_of t.0 t.1 t.2).first x (sym (t.3 x) ∙ f.member), g.first win (first_of win w.0 w.1).member))
              | no f ↦ inl (λ k. t.3 k ∙ ap (λ (s : ℕ). in_patch n labels s k) (same W p e (omega (arith, f))))
            ]
