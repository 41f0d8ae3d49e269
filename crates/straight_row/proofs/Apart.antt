-- In a row no two points are close. Assumes nothing.
use mathlib.Core.Path.{◌≡◌, refl, sym, ◌∙◌}
use mathlib.Core.Bool.{Bool, true, false, not, ◌&&◌, true≢false}
use Prim.Native.Nat.{ℕ, ◌+◌, ◌≤◌, ◌<◌}
use Prim.{Dec, yes, no}
use native.Mathlib.Omega.{arith}
use native.Mathlib.Decide.{dec_lt}
use lib.Dec.{T, eqb}
use borrow.Author.Tests.{eqb-false, ltb-false, le-ltb}
use lib.Ieee.{Float, lt, le, mul, round, of_bits}
use Rattle.folds.specs.Arith.{◌⊕◌, ◌⊖◌, ◌⊗◌, zero_f}
use Rattle.folds.specs.Below.{some}
use Rattle.folds.proofs.Below.{some-no}
use Rattle.float.proofs.Order.{lt-after}
use Rattle.whole_floats.specs.Whole.{as_float}
use Rattle.whole_floats.proofs.Whole.{whole-mono}
use Rattle.view.specs.View.{View}
use Rattle.close_pairs.specs.Close.{limit_of, close, close_mark}
use Rattle.close_pairs.proofs.Places.{place, place-order}
use Rattle.close_pairs.proofs.Squares.{far}
use Rattle.straight_row.specs.Row.{Row, seven}
use Rattle.straight_row.proofs.Row.{x-plain, x-number, y-finite, next-x, square_to, square-back}
use Rattle.std.proofs.Math.Bool.{and-false}
use Rattle.std.proofs.lemmas.Bool.{false_from_ne_true}

-- 49 is not under the square of 0.2 cell sizes
limit-under : lt (as_float 7 ⊗ as_float 7) (limit_of seven) ≡ false
unfolding limit_of lt mul round of_bits
limit-under = refl

close-is : (x y : ℕ → Float) (limit : Float) (j k : ℕ) → close x y limit j k ≡ lt ((x j ⊖ x k) ⊗ (x j ⊖ x k) ⊕ (y j ⊖ y k) ⊗ (y j ⊖ y k)) limit
unfolding close
close-is x y limit j k = refl

mark-is : (w : View) (cell : Float) (k : ℕ) → close_mark w cell k ≡ lt zero_f cell && some (λ j. not (eqb j k) && close w.x w.y (limit_of cell) j k) w.count
unfolding close_mark
mark-is w cell k = refl

module _ (w : View) (r : Row w) where
  -- x rises with the rank
  in_order : (j k : ℕ) → j ≤ k → k < w.count → place (w.x j) ≤ place (w.x k)
  in_order j k l h =
      let i : j < w.count = omega arith in
      let a = x-number w r j i in
      let b = x-number w r k h in
      let at_most : T (le (w.x j) (w.x k)) = rw (r.x j i, r.x k h) (whole-mono _ _ (omega arith)) in
      let itself : lt (w.x j) (w.x j) ≡ false = place-order (w.x j) (w.x j) a a ∙ le-ltb (place (w.x j)) (place (w.x j)) (omega arith) in
      ltb-false (place (w.x k)) (place (w.x j))
      (sym (place-order (w.x k) (w.x j) b a)
      ∙ false_from_ne_true (lt (w.x k) (w.x j)) (λ e. true≢false (sym (lt-after (w.x j) (w.x k) (w.x j) (x-plain w r j i) (x-plain w r k h) at_most e) ∙ itself)))

  later-far : (j k : ℕ) → j < k → k < w.count → lt (square_to w j k) (limit_of seven) ≡ false
  later-far j k l h =
      let i : j < w.count = omega arith in
      let n : j + 1 < w.count = omega arith in
      far (w.x j) (w.x (j + 1)) (w.x k) (w.y k) (w.y j) (limit_of seven) (x-number w r j i) (x-number w r (j + 1) n) (x-number w r k h) (y-finite w r k h) (y-finite w r j i)
      (in_order j (j + 1) (omega arith) n) (in_order (j + 1) k (omega arith) h) (rw (next-x w r j n) limit-under)

  not-close : (j k : ℕ) → j < w.count → k < w.count → (j ≡ k → ⊥) → close w.x w.y (limit_of seven) j k ≡ false
  not-close j k a b n = close-is w.x w.y (limit_of seven) j k ∙ go (dec_lt j k)
    where
      go : Dec (j < k) → lt (square_to w k j) (limit_of seven) ≡ false
      go (yes l) = rw (square-back w r j k a b) (later-far j k l b)
      go (no f) = later-far k j (omega (arith, f, n)) a

  pub no-close : (k : ℕ) → k < w.count → close_mark w seven k ≡ false
  no-close k h =
      mark-is w seven k
      ∙ rw (some-no (λ j. not (eqb j k) && close w.x w.y (limit_of seven) j k) w.count (λ j l. go j l (eqb j k) refl)) (and-false (lt zero_f seven))
    where
      go : (j : ℕ) → j < w.count → (b : Bool) → eqb j k ≡ b → not b && close w.x w.y (limit_of seven) j k ≡ false
      go j l true e = refl
      go j l false e = not-close j k l h (eqb-false j k e)
