-- The points of a row: their positions are finite f32 numbers, and neighbours are 7 apart, in either direction. Assumes nothing.
use mathlib.Core.Path.{◌≡◌, refl, sym, ap, ◌∙◌}
use Prim.Native.Nat.{ℕ, ◌+◌, ◌<◌}
use native.Mathlib.Omega.{arith}
use lib.Dec.{T}
use lib.Ieee.{Float, of_bits, sub, round}
use lib.Ieee.Scale.{finite}
use Rattle.folds.specs.Arith.{◌⊕◌, ◌⊖◌, ◌⊗◌, zero_f}
use Rattle.float.specs.Root.{root_of}
use Rattle.float.specs.Scalar.{norm_of}
use Rattle.float.proofs.Order.{plain}
use Rattle.whole_floats.specs.Whole.{as_float}
use Rattle.whole_floats.proofs.Whole.{whole_plain, whole-fits, whole-finite, minus-whole}
use Rattle.median.specs.Keys.{Number}
use Rattle.view.specs.View.{View}
use Rattle.close_pairs.proofs.Squares.{square-turned}
use Rattle.straight_row.specs.Row.{Row, seven}

zero-less : zero_f ⊖ zero_f ≡ zero_f
unfolding sub of_bits
zero-less = refl

zero-finite : T (finite zero_f)
unfolding of_bits
zero-finite = tt

norm-seven : norm_of (as_float 7) zero_f ≡ seven
unfolding norm_of of_bits round
norm-seven = refl

norm-is : (x y : Float) → norm_of x y ≡ root_of (x ⊗ x ⊕ y ⊗ y)
unfolding norm_of
norm-is x y = refl

-- the square of the distance from rank j to rank k, as f32 squares
abbrev pub square_to : View → ℕ → ℕ → Float
square_to w j k = (w.x k ⊖ w.x j) ⊗ (w.x k ⊖ w.x j) ⊕ (w.y k ⊖ w.y j) ⊗ (w.y k ⊖ w.y j)

module _ (w : View) (r : Row w) where
  module _ (k : ℕ) (h : k < w.count) where
    pub x-plain : T (plain (w.x k))
    x-plain = rw (r.x k h) (whole_plain _)

    pub x-number : Number (w.x k)
    x-number = rw (r.x k h) (record { is_finite = whole-finite _ (omega (arith, r.few)); is-f32 = whole-fits _ })

    pub y-finite : T (finite (w.y k))
    y-finite = rw (r.y k h) zero-finite

  pub next-x : (k : ℕ) → k + 1 < w.count → w.x (k + 1) ⊖ w.x k ≡ as_float 7
  next-x k h = rw (r.x (k + 1) h, r.x k (omega arith)) (minus-whole _ _ (omega arith) (omega (arith, r.few)) ∙ ap as_float (omega arith))

  pub next-apart : (k : ℕ) → k + 1 < w.count → norm_of (w.x (k + 1) ⊖ w.x k) (w.y (k + 1) ⊖ w.y k) ≡ seven
  next-apart k h = rw (next-x k h, r.y (k + 1) h, r.y k (omega arith), zero-less) norm-seven

  -- it is the same in both directions, and so is the distance
  pub square-back : (j k : ℕ) → j < w.count → k < w.count → square_to w k j ≡ square_to w j k
  square-back j k a b =
      rw (square-turned (w.x j) (w.x k) (x-number j a).is_finite (x-number k b).is_finite, square-turned (w.y j) (w.y k) (y-finite j a) (y-finite k b))

  pub norm-back : (j k : ℕ) → j < w.count → k < w.count → norm_of (w.x j ⊖ w.x k) (w.y j ⊖ w.y k) ≡ norm_of (w.x k ⊖ w.x j) (w.y k ⊖ w.y j)
  norm-back j k a b = norm-is (w.x j ⊖ w.x k) (w.y j ⊖ w.y k) ∙ ap root_of (square-back j k a b) ∙ sym (norm-is (w.x k ⊖ w.x j) (w.y k ⊖ w.y j))
