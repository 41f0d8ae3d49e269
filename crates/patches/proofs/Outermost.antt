-- How far a patch reaches a way tells of a point whether it is outermost that way. Assumes nothing.
use mathlib.Core.Path.{◌≡◌, refl, sym, ap, ◌∙◌}
use mathlib.Core.Bool.{Bool, true, false, cond, not, ◌&&◌}
use mathlib.Core.List.{List}
use Prim.Native.Nat.{ℕ, zero, suc, ◌-◌, ◌/◌, ◌%◌, ◌≤◌, ◌<◌}
use native.Mathlib.Omega.{arith}
use borrow.Author.Tests.{lt-ltb, le-ltb, ltb-true, ltb-false}
use lib.Dec.{eqb, ltb}
use lib.IntN.{pos, negsuc, ◌-ℤ◌}
use lib.Signed.{lt_z}
use lib.ListN.{get_or}
use Rattle.folds.specs.Below.{fold, turn, some}
use Rattle.folds.proofs.Below.{some-ext, and-under, ltb_as}
use Rattle.folds.proofs.Column.{column-at}
use Rattle.folds.specs.Scattered.{larger}
use Rattle.folds.proofs.Scattered.{fold-above}
use Rattle.view.specs.View.{max_points}
use Rattle.cells.specs.Points.{bias, stride}
use Rattle.cells.specs.Cell.{Cell, cells_at}
use Rattle.patches.specs.Boxes.{on_boundary, CellKeys}
use Rattle.patches.specs.Extents.{far_end, nowhere, extent, extent_with, extents_of, at_some_end}
use Rattle.patches.specs.declared.boxes.Extent.{Extent}

-- the order of whole numbers less the bias
less-bias : (x y : ℕ) → lt_z (pos x -ℤ pos bias) (pos y -ℤ pos bias) ≡ ltb x y
less-bias x y = go (ltb x bias) (ltb y bias) refl refl
  where
    go : (s t : Bool) → ltb x bias ≡ s → ltb y bias ≡ t → lt_z (cond s (negsuc (bias - suc x)) (pos (x - bias))) (cond t (negsuc (bias - suc y)) (pos (y - bias))) ≡ ltb x y
    go true true e f =
        let h = ltb-true x bias e in
        let g = ltb-true y bias f in
        ltb_as (bias - suc y) (bias - suc x) x y (λ l. omega arith) (λ l. omega arith)
    go true false e f = sym (lt-ltb x y (omega (arith, ltb-true x bias e, ltb-false y bias f)))
    go false true e f = sym (le-ltb x y (omega (arith, ltb-false x bias e, ltb-true y bias f)))
    go false false e f =
        let h = ltb-false x bias e in
        let g = ltb-false y bias f in
        ltb_as (x - bias) (y - bias) x y (λ l. omega arith) (λ l. omega arith)

-- the other way round
turned : (x y : ℕ) → x ≤ far_end → y ≤ far_end → ltb (far_end - x) (far_end - y) ≡ ltb y x
turned x y h g = ltb_as (far_end - x) (far_end - y) y x (λ l. omega arith) (λ l. omega arith)

-- one part of what a fold makes
fold-part : {A B : Type 0} (part : A → B) (p : ℕ → Bool) (f : ℕ → A → A) (g : ℕ → B → B) → ((k : ℕ) (a : A) → part (f k a) ≡ g k (part a)) → (a : A) (n : ℕ) → part (fold (turn p f) a n) ≡ fold (turn p g) (part a) n
unfolding fold
fold-part part p f g same a zero = refl
fold-part part p f g same a (suc n) = go (p n) (fold-part part p f g same a n)
  where
    go : (b : Bool) → part (fold (turn p f) a n) ≡ fold (turn p g) (part a) n
        → part (cond b (f n (fold (turn p f) a n)) (fold (turn p f) a n)) ≡ cond b (g n (fold (turn p g) (part a) n)) (fold (turn p g) (part a) n)
    go true e = same n (fold (turn p f) a n) ∙ ap (g n) e
    go false e = e

module _ (n : ℕ) (labels keys : List ℕ) where
  abbrev key : ℕ → ℕ
  key k = get_or keys k 0

  abbrev cell : ℕ → Cell
  cell = cells_at keys

  abbrev far : ℕ → Extent
  far s = get_or (extents_of n labels keys) s nowhere

  -- ranks j and k are of one patch
  abbrev together : ℕ → ℕ → Bool
  together j k = eqb (get_or labels j 0) (get_or labels k 0)

  module _ (part : Extent → ℕ) where
    -- how far rank k lies
    abbrev lies : ℕ → ℕ
    lies k = part (extent (key k))

    module _ (start : part nowhere ≡ 0) (with : (k : ℕ) (e : Extent) → part (extent_with e (key k)) ≡ larger lies k (part e)) where
      -- some point of rank k's patch lies farther
      farther : (k : ℕ) → ltb (get_or labels k 0) n ≡ true → ltb (lies k) (part (far (get_or labels k 0))) ≡ some (λ (j : ℕ). together j k && ltb (lies k) (lies j)) n
      farther k e =
          let s = get_or labels k 0 in
          let here : ℕ → Bool = λ j. together j k in
          let at = column-at max_points nowhere n (λ (s : ℕ). fold (turn (λ (j : ℕ). eqb (get_or labels j 0) s) (λ j x. extent_with x (key j))) nowhere n) s (ltb-true s n e) in
          let reached = fold-part part here (λ j x. extent_with x (key j)) (larger lies) with nowhere n in
          ap (ltb (lies k)) (ap part at ∙ reached ∙ ap (λ (x : ℕ). fold (turn here (larger lies)) x n) start) ∙ fold-above here lies (lies k) n

      -- none does, where a test of two ranks tells which lies farther
      outermost : (less : ℕ → ℕ → Bool) → ((j k : ℕ) → j < n → k < n → ltb (lies j) (lies k) ≡ less j k) → (k : ℕ) → k < n → ltb (get_or labels k 0) n ≡ true
          → not (ltb (lies k) (part (far (get_or labels k 0)))) ≡ not (some (λ (j : ℕ). together j k && less k j) n)
      outermost less same k h e =
          ap not
          (farther k e
          ∙ some-ext (λ (j : ℕ). together j k && ltb (lies k) (lies j)) (λ (j : ℕ). together j k && less k j) n
          (λ j l. ap (λ (b : Bool). together j k && b) (same k j h l)))

  module _ (cells : CellKeys n keys) where
    u-small : (j : ℕ) → j < n → key j / stride ≤ far_end
    u-small j l = omega (arith, cells j l)

    v-small : (j : ℕ) → key j % stride ≤ far_end
    v-small j = omega arith

    -- to smaller u, and to smaller v
    less-u : (j k : ℕ) → j < n → k < n → ltb (extent (key j)).less_u (extent (key k)).less_u ≡ lt_z (cell k).u (cell j).u
    less-u j k h l = turned (key j / stride) (key k / stride) (u-small j h) (u-small k l) ∙ sym (less-bias (key k / stride) (key j / stride))

    less-v : (j k : ℕ) → j < n → k < n → ltb (extent (key j)).less_v (extent (key k)).less_v ≡ lt_z (cell k).v (cell j).v
    less-v j k h l = turned (key j % stride) (key k % stride) (v-small j) (v-small k) ∙ sym (less-bias (key k % stride) (key j % stride))

    -- what the code finds is the definition
    pub boundary-is : (k : ℕ) → k < n → ltb (get_or labels k 0) n && at_some_end (far (get_or labels k 0)) (key k) ≡ on_boundary n labels cell k
    boundary-is k h = and-under (ltb (get_or labels k 0) n) (λ e. cc (
      outermost (λ x. x.more_u) refl (λ k e. refl) (λ (j k : ℕ). lt_z (cell j).u (cell k).u) (λ j k h l. sym (less-bias (key j / stride) (key k / stride))) k h e,
      outermost (λ x. x.less_u) refl (λ k e. refl) (λ (j k : ℕ). lt_z (cell k).u (cell j).u) less-u k h e,
      outermost (λ x. x.more_v) refl (λ k e. refl) (λ (j k : ℕ). lt_z (cell j).v (cell k).v) (λ j k h l. sym (less-bias (key j % stride) (key k % stride))) k h e,
      outermost (λ x. x.less_v) refl (λ k e. refl) (λ (j k : ℕ). lt_z (cell k).v (cell j).v) less-v k h e,
    ))
