-- The points of a row lie on their line: whatever the rounding of their x, the fitted line is the x axis, no distance from it is over a
-- tolerance, and no line flags any of them. Assumes nothing.
use Rattle.std.specs.List.{fold}
use mathlib.Core.Path.{◌≡◌, refl, ap, ◌∙◌}
use mathlib.Core.Bool.{true, false, ◌&&◌}
use mathlib.Core.List.{List, [], ◌∷◌}
use Prim.Native.Nat.{ℕ, ◌≤◌, ◌<◌}
use native.Mathlib.Omega.{arith}
use lib.Dec.{T, leb}
use lib.IntN.{pos}
use lib.ListN.{length}
use borrow.Author.Tests.{eq-eqb}
use lib.Ieee.{Float, binary32, add, sub, mul, neg, lt, is_nan, of_int, of_bits}
use lib.Ieee.Positive.{positive}
use Rattle.folds.specs.Arith.{◌⊕◌, ◌⊖◌, ◌⊗◌, zero_f}
use Rattle.folds.specs.Below.{tally}
use Rattle.folds.specs.Lists.{All, gather}
use Rattle.folds.proofs.Below.{some-yes, tally-le, tally-some}
use Rattle.folds.proofs.Lists.{all_listed, listed-length}
use Rattle.float.specs.Constants.{one, epsilon}
use Rattle.float.specs.Scalar.{abs_of}
use Rattle.float.proofs.Order.{plain, plain-number, sum-plain, square-plain}
use Rattle.whole_floats.proofs.Whole.{whole-int, whole-positive}
use Rattle.whole_floats.proofs.Signs.{div-plain, zero-le, sub_number, Nil, nought, add-nil, mul-nil, nil-near, zero-div}
use Rattle.view.specs.View.{View}
use Rattle.lines.specs.Fit.{mean_over, moment_of, direction_of, line_through, fit_of, distance_of}
use Rattle.lines.specs.Flags.{LineRule, is_on, is_flagged}
use Rattle.straight_row.specs.Row.{Row}
use Rattle.straight_row.proofs.Row.{x-plain, x-number}
use Rattle.std.proofs.Math.Bool.{and-false}

-- ---- by computing

zero-sum : zero_f ⊕ zero_f ≡ zero_f
unfolding add of_bits
zero-sum = refl

zero-square : zero_f ⊕ (zero_f ⊖ zero_f) ⊗ (zero_f ⊖ zero_f) ≡ zero_f
unfolding add sub mul of_bits
zero-square = refl

zero-plain : T (plain zero_f)
unfolding of_bits
zero-plain = tt

zero-nil : Nil zero_f
unfolding of_bits
zero-nil = nought false

gap-nil : Nil (zero_f ⊖ zero_f)
unfolding sub of_bits
gap-nil = nought false

gap-one-nil : Nil ((zero_f ⊖ zero_f) ⊗ one)
unfolding sub mul of_bits
gap-one-nil = nought false

minus-zero-nil : Nil (neg zero_f)
unfolding neg of_bits
minus-zero-nil = nought true

not-over-epsilon : lt epsilon zero_f ≡ false
unfolding lt of_bits
not-over-epsilon = refl

-- a direction by moments: sxy is zero or a NaN, syy is zero, and sxx is not negative
direction-is : (sxx sxy : Float) → T (plain sxx) → Nil sxy → direction_of sxx sxy zero_f ≡ record { x = one; y = zero_f }
unfolding direction_of
direction-is sxx sxy p q = rw (nil-near epsilon sxy q not-over-epsilon, zero-le sxx p)

-- the distance from the line through (cx, 0) along the x axis
axis-distance : (cx x : Float) → distance_of (line_through (record { x = cx; y = zero_f }) (record { x = one; y = zero_f })) x zero_f ≡ abs_of ((x ⊖ cx) ⊗ neg zero_f ⊕ (zero_f ⊖ zero_f) ⊗ one)
unfolding distance_of line_through
axis-distance cx x = refl

from-axis : (cx limit x : Float) → lt limit zero_f ≡ false → lt limit (distance_of (line_through (record { x = cx; y = zero_f }) (record { x = one; y = zero_f })) x zero_f) ≡ false
from-axis cx limit x z =
    ap (lt limit) (axis-distance cx x)
    ∙ nil-near limit ((x ⊖ cx) ⊗ neg zero_f ⊕ (zero_f ⊖ zero_f) ⊗ one) (add-nil ((x ⊖ cx) ⊗ neg zero_f) ((zero_f ⊖ zero_f) ⊗ one) (mul-nil (x ⊖ cx) (neg zero_f) minus-zero-nil) gap-one-nil) z

fit_is : (x y : ℕ → Float) (l : List ℕ) → let cx = mean_over x l in let cy = mean_over y l in
    fit_of x y l ≡ line_through (record { x = cx; y = cy }) (direction_of (moment_of x cx x cx l) (moment_of x cx y cy l) (moment_of y cy y cy l))
unfolding fit_of
fit_is x y l = refl

moment-is : (f : ℕ → Float) (a : Float) (g : ℕ → Float) (b : Float) (l : List ℕ) → moment_of f a g b l ≡ fold (λ (s : Float) (j : ℕ). s ⊕ (f j ⊖ a) ⊗ (g j ⊖ b)) zero_f l
unfolding moment_of
moment-is f a g b l = refl

flagged-is : (rule : LineRule) (minimum : ℕ) (line : ℕ → ℕ) (n k : ℕ) → let l = gather (is_on line (line k)) n in
    is_flagged rule minimum line n k ≡ leb minimum (length l) && lt (rule.tolerance ⊗ rule.scale k) (distance_of (fit_of rule.x rule.y l) (rule.x k) (rule.y k))
unfolding is_flagged
flagged-is rule minimum line n k = refl

-- ---- the line fitted to points of a row

module _ (w : View) (r : Row w) where
  abbrev Ranks : List ℕ → Type 0
  Ranks l = All (λ (j : ℕ). j < w.count) l

  sum-y : (l : List ℕ) → Ranks l → fold (λ (s : Float) (j : ℕ). s ⊕ w.y j) zero_f l ≡ zero_f
  sum-y [] a = refl
  sum-y (j ∷ l) a = rw (r.y j a.0, zero-sum) (sum-y l a.1)

  sum-x : (l : List ℕ) → Ranks l → (s : Float) → T (plain s) → T (plain (fold (λ (s : Float) (j : ℕ). s ⊕ w.x j) s l))
  sum-x [] a s p = p
  sum-x (j ∷ l) a s p = sum-x l a.1 (s ⊕ w.x j) (sum-plain s (w.x j) p (x-plain w r j a.0))

  moment-yy : (l : List ℕ) → Ranks l → fold (λ (s : Float) (j : ℕ). s ⊕ (w.y j ⊖ zero_f) ⊗ (w.y j ⊖ zero_f)) zero_f l ≡ zero_f
  moment-yy [] a = refl
  moment-yy (j ∷ l) a = rw (r.y j a.0, zero-square) (moment-yy l a.1)

  moment-xy : (c : Float) (l : List ℕ) → Ranks l → (s : Float) → Nil s → Nil (fold (λ (s : Float) (j : ℕ). s ⊕ (w.x j ⊖ c) ⊗ (w.y j ⊖ zero_f)) s l)
  moment-xy c [] a s p = p
  moment-xy c (j ∷ l) a s p =
      moment-xy c l a.1 (s ⊕ (w.x j ⊖ c) ⊗ (w.y j ⊖ zero_f))
      (add-nil s ((w.x j ⊖ c) ⊗ (w.y j ⊖ zero_f)) p (mul-nil (w.x j ⊖ c) (w.y j ⊖ zero_f) (rw (r.y j a.0) gap-nil)))

  moment-xx : (c : Float) → is_nan c ≡ false → (l : List ℕ) → Ranks l → (s : Float) → T (plain s) → T (plain (fold (λ (s : Float) (j : ℕ). s ⊕ (w.x j ⊖ c) ⊗ (w.x j ⊖ c)) s l))
  moment-xx c e [] a s p = p
  moment-xx c e (j ∷ l) a s p =
      moment-xx c e l a.1 (s ⊕ (w.x j ⊖ c) ⊗ (w.x j ⊖ c))
      (sum-plain s ((w.x j ⊖ c) ⊗ (w.x j ⊖ c)) p (square-plain (w.x j ⊖ c) (sub_number (w.x j) c (x-number w r j a.0).is_finite e)))

  module _ (l : List ℕ) (ranks : Ranks l) (some : 0 < length l) (all : length l ≤ w.count) where
    count-positive : T (positive (of_int binary32 (pos (length l))))
    count-positive = rw (whole-int (length l)) (whole-positive (length l) (omega (arith, r.few)) some)

    mean-y : mean_over w.y l ≡ zero_f
    unfolding mean_over
    mean-y = rw (sum-y l ranks) (zero-div (of_int binary32 (pos (length l))) count-positive)

    mean-x : T (plain (mean_over w.x l))
    unfolding mean_over
    mean-x = div-plain (fold (λ (s : Float) (j : ℕ). s ⊕ w.x j) zero_f l) (of_int binary32 (pos (length l))) (sum-x l ranks zero_f zero-plain) count-positive

    abbrev cx : Float
    cx = mean_over w.x l

    spread : T (plain (moment_of w.x cx w.x cx l))
    spread = rw (moment-is w.x cx w.x cx l) (moment-xx cx (plain-number cx mean-x) l ranks zero_f zero-plain)

    level : Nil (moment_of w.x cx w.y zero_f l)
    level = rw (moment-is w.x cx w.y zero_f l) (moment-xy cx l ranks zero_f zero-nil)

    fit-axis : fit_of w.x w.y l ≡ line_through (record { x = cx; y = zero_f }) (record { x = one; y = zero_f })
    fit-axis =
        fit_is w.x w.y l
        ∙ rw (mean-y, moment-is w.y zero_f w.y zero_f l, moment-yy l ranks, direction-is (moment_of w.x cx w.x cx l) (moment_of w.x cx w.y zero_f l) spread level)

    near-line : (limit : Float) (k : ℕ) → k < w.count → lt limit zero_f ≡ false → lt limit (distance_of (fit_of w.x w.y l) (w.x k) (w.y k)) ≡ false
    near-line limit k h z = rw (fit-axis, r.y k h) (from-axis cx limit (w.x k) z)

  -- no line of any kind flags a point
  pub no-flag : (scale : ℕ → Float) (tolerance : Float) (minimum : ℕ) (line : ℕ → ℕ) (k : ℕ) → k < w.count → lt (tolerance ⊗ scale k) zero_f ≡ false
      → is_flagged (record { x = w.x; y = w.y; scale = scale; tolerance = tolerance }) minimum line w.count k ≡ false
  no-flag scale tolerance minimum line k h z =
      let on = is_on line (line k) in
      let l = gather on w.count in
      let long = listed-length on (λ (j : ℕ). j) w.count in
      let some : 0 < tally on w.count = tally-some on w.count (some-yes on w.count k h (eq-eqb (line k) (line k) refl)) in
      flagged-is (record { x = w.x; y = w.y; scale = scale; tolerance = tolerance }) minimum line w.count k
      ∙ rw (near-line l (all_listed (λ (j : ℕ). j < w.count) on (λ (j : ℕ). j) w.count (λ j g e. g)) (omega (arith, long, some)) (omega (arith, long, tally-le on w.count)) (tolerance ⊗ scale k) k h z)
      (and-false (leb minimum (length l)))
