-- From the residuals of ranks to those of their indices. Assumes nothing.
use mathlib.Core.Bool.{Bool, true, false, cond, ◌&&◌}
use mathlib.Core.List.{List, ◌++◌}
use mathlib.Core.Path.{◌≡◌, refl, ap, ◌∙◌}
use Prim.Native.Nat.{ℕ, zero, suc, ◌-◌, ◌≤◌, ◌<◌}
use native.Mathlib.Omega.{arith}
use lib.Dec.{ltb}
use lib.ListN.{get_or, replicate, length-replicate, get_or-replicate}
use lib.Seq.{drop-append_seam}
use lib.Ieee.{Float}
use borrow.Author.Tests.{lt-ltb, le-ltb, ltb-true}
use Rattle.folds.specs.Below.{fold, turn, last}
use Rattle.folds.proofs.Below.{last-ext}
use Rattle.folds.specs.Lists.{list_of}
use Rattle.folds.proofs.Lists.{length-list}
use Rattle.folds.specs.Column.{column, overlaid}
use Rattle.folds.proofs.Column.{column-at, column-ext}
use Rattle.folds.specs.Marked.{bit}
use Rattle.folds.specs.Scattered.{Scattered, counts}
use Rattle.view.specs.View.{View, max_points, alike}
use Rattle.marks.specs.Marks.{index_marks}
use Rattle.marks.proofs.Guards.{index-marks}
use Rattle.cells.specs.Cell.{Cell}
use Rattle.local_h.specs.Residual.{residual_at}
use Rattle.float.specs.declared.Distance.{Distance}
use Rattle.std.specs.Prelude.{Option, None, is_some}
use Rattle.residuals.specs.declared.Flags.{Flags}
use Rattle.residuals.specs.ByIndex.{last_fit, index_residual, residuals_of, over_at, high_at, rank_flags, index_flags}
use Rattle.std.proofs.Math.Bool.{and_comm}

-- of values stored over each other the last stays
fold-value : (p : ℕ → Bool) (f : ℕ → Option Distance) (d : Option Distance) (e n : ℕ) → n ≤ e → fold (turn p (λ k x. f k)) d n ≡ cond (ltb (last p e n) e) (f (last p e n)) d
unfolding fold last
fold-value p f d e zero h = rw (le-ltb e e (omega arith))
fold-value p f d e (suc n) h = go (p n) (fold-value p f d e n (omega arith))
  where
    go : (b : Bool) → fold (turn p (λ k x. f k)) d n ≡ cond (ltb (last p e n) e) (f (last p e n)) d → cond b (f n) (fold (turn p (λ k x. f k)) d n) ≡ cond (ltb (cond b n (last p e n)) e) (f (cond b n (last p e n))) d
    go true r = rw (lt-ltb n e (omega arith))
    go false r = r

-- a column written over another
column-overlaid : (n : ℕ) (f g : ℕ → Option Distance) → overlaid n f (column max_points None n g) ≡ column max_points None n f
unfolding overlaid column
column-overlaid n f g = ap (λ (l : List (Option Distance)). list_of n f ++ l) (rw (length-list n g) at (drop-append_seam (list_of n g) (replicate (max_points - n) None)))

module _ (w : View) where
  -- what is read for rank k at the place of its index
  pub value-placed : (r : ℕ → Option Distance) {l : List (Option Distance)} → Scattered None w.by_idx (λ k. is_some (r k)) (λ k x. r k) (replicate max_points None) w.count l
      → (k : ℕ) → w.by_idx k < max_points → get_or l (w.by_idx k) None ≡ index_residual w r k
  unfolding index_residual last_fit
  value-placed r f k h =
      f.at (w.by_idx k) (omega (arith, length-replicate {A = Option Distance} max_points None))
      ∙ rw (get_or-replicate {A = Option Distance} max_points (w.by_idx k) None None h) (fold-value (counts w.by_idx (λ j. is_some (r j)) (w.by_idx k)) r None w.count w.count (omega arith))
      ∙ ap (λ (j : ℕ). cond (ltb j w.count) (r j) None) (last-ext _ _ w.count w.count (λ j l. and_comm (alike w j k) (is_some (r j))))

  -- it goes by the residuals of ranks
  residual-ext : (r s : ℕ → Option Distance) → ((k : ℕ) → k < w.count → r k ≡ s k) → (k : ℕ) → index_residual w r k ≡ index_residual w s k
  unfolding index_residual last_fit
  residual-ext r s e k =
      rw (last-ext (λ j. is_some (r j) && alike w j k) (λ j. is_some (s j) && alike w j k) w.count w.count (λ j l. rw (e j l)))
      (go (last (λ j. is_some (s j) && alike w j k) w.count w.count) (ltb (last (λ j. is_some (s j) && alike w j k) w.count w.count) w.count) refl)
    where
      go : (j : ℕ) (t : Bool) → ltb j w.count ≡ t → cond t (r j) None ≡ cond t (s j) None
      go j true d = e j (ltb-true j w.count d)
      go j false d = refl

  module _ (cell : ℕ → Cell) where
    -- the residuals of the indices, written over those of the ranks
    pub residuals-are : {cells values : List (Option Distance)} → cells ≡ column max_points None w.count (residual_at w cell) → values ≡ overlaid w.count (index_residual w (λ (k : ℕ). get_or cells k None)) cells → values ≡ residuals_of w cell
    unfolding residuals_of
    residuals-are {cells} e f =
        f ∙ rw e (column-overlaid w.count _ (residual_at w cell))
        ∙ column-ext max_points None w.count _ _ (λ k h. residual-ext (λ (j : ℕ). get_or cells j None) (residual_at w cell) (λ j l. rw e (column-at max_points None w.count (residual_at w cell) j l)) k)

  -- the flags of the indices, from those of the ranks
  module _ (r : ℕ → Option Distance) (scale : ℕ → Float) (tolerance : Float) where
    -- they go by the residuals of ranks
    flags-ext : (s : ℕ → Option Distance) → ((k : ℕ) → k < w.count → s k ≡ r k) → rank_flags s scale tolerance w.count ≡ rank_flags r scale tolerance w.count
    unfolding rank_flags
    flags-ext s e =
        rw (
          column-ext max_points 0 w.count (λ (k : ℕ). bit (over_at s scale tolerance k)) (λ (k : ℕ). bit (over_at r scale tolerance k)) (λ k h. rw (e k h)),
          column-ext max_points 0 w.count (λ (k : ℕ). bit (high_at s scale tolerance k)) (λ (k : ℕ). bit (high_at r scale tolerance k)) (λ k h. rw (e k h)),
        )

    pub flags-are : {values : List (Option Distance)} {cells : Flags} {over high : List ℕ} → values ≡ column max_points None w.count r → cells ≡ rank_flags (λ (k : ℕ). get_or values k None) scale tolerance w.count
        → over ≡ index_marks w cells.over → high ≡ index_marks w cells.high → ◌≡◌ {A = Flags} (record { over = over; high = high }) (index_flags r scale tolerance w)
    unfolding rank_flags index_flags
    flags-are {values} {cells} v e c d =
        let f : cells ≡ rank_flags r scale tolerance w.count = e ∙ flags-ext (λ (k : ℕ). get_or values k None) (λ k h. rw v (column-at max_points None w.count r k h)) in
        rw (c ∙ index-marks w (over_at r scale tolerance) cells.over (ap (λ (f : Flags). f.over) f), d ∙ index-marks w (high_at r scale tolerance) cells.high (ap (λ (f : Flags). f.high) f))
