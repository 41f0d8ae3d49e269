-- What the component mark says. Assumes nothing.
use mathlib.Core.Path.{◌≡◌, refl, ap, ◌∙◌}
use mathlib.Core.Bool.{Bool, true, not, ◌&&◌}
use mathlib.Core.List.{List}
use Prim.Native.Nat.{ℕ, ◌<◌}
use borrow.Author.Tests.{eq-eqb, eqb-true, lt-ltb}
use lib.Dec.{eqb}
use lib.ListN.{get_or}
use Rattle.folds.proofs.Below.{some-ext, some_one, and-under}
use Rattle.folds.proofs.Column.{column-at}
use Rattle.folds.specs.Marked.{bit}
use Rattle.view.specs.View.{View, max_points, alike, index_has}
use Rattle.marks.proofs.Guards.{index-marks}
use Rattle.patches.specs.Patches.{survives, linked, labels_of, patch_labels}
use Rattle.components.specs.Components.{winner_of, in_patch, in_other_patch, others_by, others_of, component_mark}
use Rattle.patches.proofs.Surviving.{survives-lt}
use Rattle.patches.proofs.Closure.{reach-from}
use Rattle.patches.proofs.Labelling.{joins, label-some}
use Rattle.std.specs.Cmp.{both_ways}

-- ---- the mark is of indices

module _ (w : View) (sides dropped : List ℕ) where
  abbrev labels : List ℕ
  labels = patch_labels w sides dropped

  abbrev other : ℕ → Bool
  other = in_other_patch w.count labels (winner_of w.count labels)

  -- rank k is marked where some point with its index survives outside the winner
  mark-is : (k : ℕ) → k < w.count → get_or (component_mark w sides dropped) k 0 ≡ bit (index_has w other k)
  unfolding others_of others_by
  mark-is k h =
      ap (λ (l : List ℕ). get_or l k 0) (index-marks w other (others_of w.count labels) refl) ∙ column-at max_points 0 w.count (λ (k : ℕ). bit (index_has w other k)) k h

  -- where no two points have one index, the marked cells are those outside the winner
  pub mark-distinct : (k : ℕ) → k < w.count → ((j : ℕ) → j < w.count → w.by_idx j ≡ w.by_idx k → j ≡ k)
      → get_or (component_mark w sides dropped) k 0 ≡ bit (in_other_patch w.count (patch_labels w sides dropped) (winner_of w.count (patch_labels w sides dropped)) k)
  mark-distinct k h one =
      mark-is k h
      ∙ ap bit (some-ext (λ (j : ℕ). other j && alike w j k) (λ (j : ℕ). other j && eqb j k) w.count (λ j l. and-under (other j) (λ e. same j l)) ∙ some_one other w.count k h)
    where
      same : (j : ℕ) → j < w.count → alike w j k ≡ eqb j k
      same j l = both_ways (alike w j k) (eqb j k)
          (λ t. eq-eqb j k (one j l (eqb-true (w.by_idx j) (w.by_idx k) t)))
          (λ t. eq-eqb (w.by_idx j) (w.by_idx k) (ap w.by_idx (eqb-true j k t)))

-- a survivor is in the winner or outside it
pub other-not : (n : ℕ) (near : ℕ → ℕ) (sides dropped : List ℕ) (s k : ℕ) → survives n dropped k ≡ true → in_other_patch n (labels_of n near sides dropped) s k ≡ not (in_patch n (labels_of n near sides dropped) s k)
other-not n near sides dropped s k e =
    let v = survives-lt n dropped (get_or (labels_of n near sides dropped) k 0) (reach-from n (survives n dropped) (linked n near sides dropped) (joins n near sides dropped) (label-some n near sides dropped k e).reached) in
    rw (lt-ltb (get_or (labels_of n near sides dropped) k 0) n v, lt-ltb k n (survives-lt n dropped k e)) refl
