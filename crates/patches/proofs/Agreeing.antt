-- Labels agree just where one survivor is reached from the other, where the table of neighbours is mirrored and the list has each offset's
-- opposite; and labels depend on the survivors and on the neighbours of points alone. Assumes nothing.
use mathlib.Core.Path.{◌≡◌, refl, ap, ◌∙◌, fun_ext}
use mathlib.Core.Bool.{Bool, true}
use mathlib.Core.List.{List}
use Prim.Native.Nat.{ℕ, ◌+◌, ◌-◌, ◌*◌, ◌≤◌, ◌<◌}
use native.Mathlib.Nat.{le_antisymm}
use borrow.Author.Tests.{eqb-true}
use lib.Dec.{eqb}
use lib.ListN.{length, get_or}
use Rattle.folds.specs.Below.{some}
use Rattle.folds.proofs.Below.{some_at, every-at, and-under}
use Rattle.patches.specs.Patches.{survives, touches, linked, via, labels_by, labels_of}
use Rattle.patches.specs.Reach.{Reach, here, step, Mirrored, paired}
use Rattle.patches.specs.Search.{NearPlaces}
use Rattle.patches.proofs.Surviving.{survives-lt, link-from, link-to, link-side, link-by, survive-alike}
use Rattle.patches.proofs.Closure.{reach-trans, reach-from, reach-to}
use Rattle.patches.proofs.Labelling.{joins, label-some}

module _ (n : ℕ) (near : ℕ → ℕ) (sides dropped : List ℕ) where
  abbrev alive : ℕ → Bool
  alive = survives n dropped

  abbrev link : ℕ → ℕ → Bool
  link = linked n near sides dropped

  abbrev label : ℕ → ℕ
  label k = get_or (labels_of n near sides dropped) k 0

  module _ (placed : NearPlaces sides) (pairs : paired sides ≡ true) (mirror : Mirrored n near) where
    -- ---- shared edges lead both ways

    pub link-back : (a b : ℕ) → link a b ≡ true → link b a ≡ true
    unfolding paired
    link-back a b e =
        let p = link-from n near sides dropped a b e in
        let q = link-to n near sides dropped a b e in
        let w = link-side n near sides dropped a b e in
        let o = every-at (λ (i : ℕ). some (λ (j : ℕ). eqb (get_or sides j 0) (24 - get_or sides i 0)) (length sides)) (length sides) pairs w.0 w.1 in
        let j = some_at (λ (j : ℕ). eqb (get_or sides j 0) (24 - get_or sides w.0 0)) (length sides) o in
        let f = eqb-true (get_or sides j.0 0) (24 - get_or sides w.0 0) j.2 in
        link-by n near sides dropped b a q p j.0 j.1
        (ap (λ (d : ℕ). near (25 * b + d)) f ∙ mirror.back a b (get_or sides w.0 0) (survives-lt n dropped a p) (survives-lt n dropped b q) (placed w.0 w.1) w.2)

    reach-back : {a b : ℕ} → Reach alive link a b → Reach alive link b a
    reach-back (here e) = here e
    reach-back {b = c} (step {b} r e) = reach-trans (step (here (link-to n near sides dropped b c e)) (link-back b c e)) (reach-back r)

    -- ---- labels

    lower : {a b : ℕ} → Reach alive link a b → label b ≤ label a
    lower {a} {b} r =
        (label-some n near sides dropped b (reach-to n alive link (joins n near sides dropped) r)).least (label a) (reach-trans (label-some n near sides dropped a (reach-from n alive link (joins n near sides dropped) r)).reached r)

    -- two survivors have the same label exactly when one is reached from the other
    pub same-label : (a b : ℕ) → alive a ≡ true → alive b ≡ true → (label a ≡ label b → Reach alive link a b) × (Reach alive link a b → label a ≡ label b)
    same-label a b p q = (
      (λ e. reach-trans (reach-back (label-some n near sides dropped a p).reached) (rw e (label-some n near sides dropped b q).reached)),
      λ r. le_antisymm (lower (reach-back r)) (lower r),
    )

-- ---- labels depend on the survivors and on the neighbours of points alone

pub labels-depend : (n : ℕ) (near near' : ℕ → ℕ) (sides sides' dropped dropped' : List ℕ) → ((k : ℕ) → k < n → survives n dropped k ≡ survives n dropped' k)
    → ((a b : ℕ) → a < n → b < n → touches near sides a b ≡ touches near' sides' a b) → labels_of n near sides dropped ≡ labels_of n near' sides' dropped'
unfolding labels_of
labels-depend n near near' sides sides' dropped dropped' s t =
    let p = fun_ext (survive-alike n dropped dropped' s) in
    let q = fun_ext (λ (a : ℕ). fun_ext (joined a)) in
    ap (λ (f : ℕ → Bool). labels_by n (via n f (linked n near sides dropped) n)) p ∙ ap (λ (f : ℕ → ℕ → Bool). labels_by n (via n (survives n dropped') f n)) q
  where
    joined : (a b : ℕ) → linked n near sides dropped a b ≡ linked n near' sides' dropped' a b
    joined a b =
        and-under (survives n dropped a) (λ e. and-under (survives n dropped b) (λ f. t a b (survives-lt n dropped a e) (survives-lt n dropped b f)))
        ∙ rw (survive-alike n dropped dropped' s a, survive-alike n dropped dropped' s b) refl
