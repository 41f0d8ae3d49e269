-- The answer depends on the number of points, on their neighbours and the places of their indices, and on which are dropped and which weak.
-- Assumes nothing.
use mathlib.Core.Path.{◌≡◌, refl, ap, ◌∙◌, fun_ext}
use mathlib.Core.Bool.{Bool, not, ◌&&◌, ◌||◌}
use mathlib.Core.List.{List}
use Prim.Native.Nat.{ℕ, zero, suc, ◌+◌, ◌*◌, ◌<◌}
use native.Mathlib.Omega.{arith}
use lib.Dec.{eqb, ltb}
use lib.ListN.{length, get_or}
use Rattle.folds.proofs.Below.{some-ext, tally-ext, and-under}
use Rattle.folds.specs.Lists.{list_of}
use Rattle.folds.proofs.Lists.{list_ext}
use Rattle.folds.proofs.Column.{column-ext}
use Rattle.folds.specs.Marked.{bit}
use Rattle.view.specs.View.{View, max_points}
use Rattle.marks.specs.Marks.{is_set}
use Rattle.patches.specs.Patches.{survives}
use Rattle.patches.specs.Search.{NearPlaces}
use Rattle.patches.proofs.Surviving.{survives-lt, survive-alike}
use Rattle.peel.specs.Peel.{live, live_sides, leaf, goes, gone_after, rounds_in, peeled, peeled_in, peeled_of}
use Rattle.peel.proofs.Leaves.{live-alive}

module _ (n : ℕ) (by_idx by_idx' : ℕ → ℕ) (index : (k : ℕ) → k < n → by_idx k ≡ by_idx' k) where
  -- ---- rounds

  module _ (ends : (ℕ → Bool) → ℕ → Bool) where
    after_same : (r : ℕ) → gone_after n by_idx ends r ≡ gone_after n by_idx' ends r
    unfolding gone_after
    after_same zero = refl
    after_same (suc r) =
        let g = gone_after n by_idx ends r in
        list_ext 0 n _ _ (λ b h. ap (λ (t : Bool). bit (is_set g b || t)) (some-ext _ _ n (λ k l. ap (λ (m : ℕ). ends (is_set g) k && eqb m b) (index k l))))
        ∙ ap (λ (g : List ℕ). list_of n (λ (b : ℕ). bit (is_set g b || goes n by_idx' ends (is_set g) b))) (after_same r)

    rounds-same : peeled_in n by_idx ends (gone_after n by_idx ends) ≡ peeled_in n by_idx' ends (gone_after n by_idx' ends)
    unfolding peeled_in rounds_in
    rounds-same =
        ap (peeled_in n by_idx ends) (fun_ext after_same)
        ∙ ap (λ (m : List ℕ). peeled m (rounds_in n by_idx' ends (gone_after n by_idx' ends)))
        (column-ext max_points 0 n _ _ (λ k h. ap (λ (b : ℕ). bit (is_set (gone_after n by_idx' ends (rounds_in n by_idx' ends (gone_after n by_idx' ends))) b)) (index k h)))

  -- ---- ends

  module _ (near near' : ℕ → ℕ) (sides dropped dropped' weak weak' : List ℕ) (placed : NearPlaces sides) (beside : (i : ℕ) → i < 25 * n → near i ≡ near' i)
      (kept : (k : ℕ) → k < n → survives n dropped k ≡ survives n dropped' k) (faint : (k : ℕ) → k < n → is_set weak k ≡ is_set weak' k) where
    live_same : (gone : ℕ → Bool) (k : ℕ) → live (survives n dropped) by_idx gone k ≡ live (survives n dropped') by_idx' gone k
    live_same gone k =
        and-under (survives n dropped k) (λ e. ap (λ (b : ℕ). not (gone b)) (index k (survives-lt n dropped k e)))
        ∙ ap (λ (t : Bool). t && not (gone (by_idx' k))) (survive-alike n dropped dropped' kept k)

    sides-same : (gone : ℕ → Bool) (k : ℕ) → k < n → live_sides (survives n dropped) near by_idx sides gone k ≡ live_sides (survives n dropped') near' by_idx' sides gone k
    unfolding live_sides
    sides-same gone k h = tally-ext _ _ (length sides) (λ i l. ap (live (survives n dropped) by_idx gone) (beside (25 * k + get_or sides i 0) (omega (arith, placed i l))) ∙ live_same gone (near' (25 * k + get_or sides i 0)))

    leaf-same : (gone : ℕ → Bool) (k : ℕ) → leaf (survives n dropped) near by_idx sides (is_set weak) gone k ≡ leaf (survives n dropped') near' by_idx' sides (is_set weak') gone k
    unfolding leaf
    leaf-same gone k =
        and-under (live (survives n dropped) by_idx gone k) (λ e. let h = survives-lt n dropped k (live-alive (survives n dropped) by_idx gone k e) in
        ap (λ (t : Bool). t && ltb (live_sides (survives n dropped) near by_idx sides gone k) 2) (faint k h) ∙ ap (λ (m : ℕ). is_set weak' k && ltb m 2) (sides-same gone k h))
        ∙ ap (λ (t : Bool). t && (is_set weak' k && ltb (live_sides (survives n dropped') near' by_idx' sides gone k) 2)) (live_same gone k)

    peel-same : peeled_in n by_idx (leaf (survives n dropped) near by_idx sides (is_set weak)) (gone_after n by_idx (leaf (survives n dropped) near by_idx sides (is_set weak)))
        ≡ peeled_in n by_idx' (leaf (survives n dropped') near' by_idx' sides (is_set weak')) (gone_after n by_idx' (leaf (survives n dropped') near' by_idx' sides (is_set weak')))
    peel-same =
        ap (λ (t : (ℕ → Bool) → ℕ → Bool). peeled_in n by_idx t (gone_after n by_idx t)) (fun_ext (λ (g : ℕ → Bool). fun_ext (leaf-same g)))
        ∙ rounds-same (leaf (survives n dropped') near' by_idx' sides (is_set weak'))

-- THEOREM: nothing else is seen of a sheet
pub peeled-same : (w w' : View) (sides dropped dropped' weak weak' : List ℕ) → w.count ≡ w'.count → NearPlaces sides → ((i : ℕ) → i < 25 * w.count → w.near i ≡ w'.near i) → ((k : ℕ) → k < w.count → w.by_idx k ≡ w'.by_idx k)
    → ((k : ℕ) → k < w.count → survives w.count dropped k ≡ survives w.count dropped' k) → ((k : ℕ) → k < w.count → is_set weak k ≡ is_set weak' k) → peeled_of w sides dropped weak ≡ peeled_of w' sides dropped' weak'
peeled-same w w' sides dropped dropped' weak weak' e placed beside index kept faint =
    peel-same w.count w.by_idx w'.by_idx index w.near w'.near sides dropped dropped' weak weak' placed beside kept faint
    ∙ ap (λ (n : ℕ). peeled_in n w'.by_idx (leaf (survives n dropped') w'.near w'.by_idx sides (is_set weak')) (gone_after n w'.by_idx (leaf (survives n dropped') w'.near w'.by_idx sides (is_set weak')))) e
