-- The fills by rank: what stands at each, and that they depend on which ranks are kept alone. Assumes nothing.
use mathlib.Core.Path.{◌≡◌, refl, ap, ◌∙◌}
use mathlib.Core.Bool.{Bool, true, false, cond}
use mathlib.Core.List.{List}
use Prim.Native.Nat.{ℕ, ◌≤◌, ◌<◌}
use borrow.Author.Tests.{ltb-true}
use lib.Dec.{eqb, ltb}
use lib.ListN.{get_or}
use Rattle.folds.proofs.Below.{and-under}
use Rattle.folds.proofs.Column.{column-at, column-over, column-ext}
use Rattle.offsets.specs.declared.Offset.{Offset}
use Rattle.view.specs.View.{View, max_points, rank_at}
use Rattle.predict.specs.Fills.{kept_at, value_at, prediction_at, fill_at, fills_of}
use Rattle.std.specs.Prelude.{None}
use Rattle.predict.proofs.Theorems.{depends-on-kept}

module _ (w : View) (sides : List Offset) where
  module _ (marks : List ℕ) (k : ℕ) where
    pub fill-past : w.count ≤ k → get_or (fills_of w sides marks) k None ≡ None
    unfolding fills_of
    fill-past h = column-over max_points None w.count (fill_at w sides marks) k h

    module _ (h : k < w.count) where
      fill_is : get_or (fills_of w sides marks) k None ≡ fill_at w sides marks k
      unfolding fills_of
      fill_is = column-at max_points None w.count (fill_at w sides marks) k h

      pub fill-kept : eqb (get_or marks k 0) 0 ≡ true → get_or (fills_of w sides marks) k None ≡ None
      fill-kept e = fill_is ∙ ap (λ (b : Bool). cond b None (prediction_at w sides marks k)) e

      pub fill-dropped : eqb (get_or marks k 0) 0 ≡ false → get_or (fills_of w sides marks) k None ≡ prediction_at w sides marks k
      fill-dropped e = fill_is ∙ ap (λ (b : Bool). cond b None (prediction_at w sides marks k)) e

  -- where the same ranks are kept, the fills are the same
  module _ (m₁ m₂ : List ℕ) (same : (k : ℕ) → k < w.count → eqb (get_or m₁ k 0) 0 ≡ eqb (get_or m₂ k 0) 0) where
    kept_same : (k : ℕ) (o : Offset) → kept_at w m₁ k o ≡ kept_at w m₂ k o
    kept_same k o = let j = rank_at w k o in and-under (ltb j w.count) (λ e. same j (ltb-true j w.count e))

    pub fills_same : fills_of w sides m₁ ≡ fills_of w sides m₂
    unfolding fills_of
    fills_same = column-ext max_points None w.count (fill_at w sides m₁) (fill_at w sides m₂) (λ k h. ap (λ (b : Bool). cond b None (prediction_at w sides m₁ k)) (same k h) ∙ ap (cond (eqb (get_or m₂ k 0) 0) None) (predicted k))
      where
        predicted : (k : ℕ) → prediction_at w sides m₁ k ≡ prediction_at w sides m₂ k
        predicted k =
            depends-on-kept sides (kept_at w m₁ k) (kept_at w m₂ k) (value_at w w.x k) (value_at w w.x k) (value_at w w.y k) (value_at w w.y k)
            (record { there = λ o m. kept_same k o; x = λ o m t. refl; y = λ o m t. refl })
