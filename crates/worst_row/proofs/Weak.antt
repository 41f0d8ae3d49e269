-- Which points of the sheet that takes longest are weak: of three or more all but the last, of two both. Assumes nothing.
use mathlib.Core.Path.{◌≡◌, refl, sym, ap, ◌∙◌}
use mathlib.Core.Bool.{Bool, true, false, cond}
use mathlib.Core.List.{List}
use Prim.Native.Nat.{ℕ, ◌+◌, ◌/◌, ◌≤◌, ◌<◌}
use native.Mathlib.Omega.{arith}
use lib.Dec.{eqb}
use lib.Ieee.{Float, nan, lt, mul, of_bits}
use lib.ListN.{length, get_or}
use borrow.Author.Tests.{eq-eqb, ne_eqb}
use Rattle.folds.specs.Arith.{◌⊗◌, f32}
use Rattle.folds.specs.Lists.{list_of}
use Rattle.folds.proofs.Column.{column-at}
use Rattle.folds.proofs.Lists.{length-list, list_at, list_ext}
use Rattle.float.specs.Constants.{one, two}
use Rattle.view.specs.View.{max_points}
use Rattle.cells.specs.Points.{Point, nowhere, strengths_of}
use Rattle.median.specs.Median.{median_of, first_of}
use Rattle.marks.specs.Marks.{is_set}
use Rattle.marks.proofs.Guards.{set_is}
use Rattle.sheet_file.specs.declared.Fraction.{Fraction}
use Rattle.sheet_file.specs.declared.Fraction.TheVariants.{Given}
use Rattle.strengths.proofs.Laws.{weak-by}
use Rattle.drop_set.specs.Filters.{weak_by}
use Rattle.worst_sheet.specs.Worst.{float_bits, worst_points}
use Rattle.worst_row.specs.Sheet.{worst_settings}
use Rattle.worst_row.proofs.Patterns.{one-is, two_is}
use Rattle.sort.proofs.Listed.{sort-listed}
use Rattle.worst_row.proofs.Accepted.{point-is, point-count}

-- the weak marks, from the settings and the points
abbrev pub weak_marks : ℕ → List ℕ
weak_marks n = weak_by worst_settings.score_frac n (strengths_of (worst_points n))

-- "all strengths 1 but the last, which is 2"
abbrev strength : ℕ → ℕ → Float
strength n k = cond (eqb (k + 1) n) two one

fraction-is : worst_settings.score_frac ≡ Given two
fraction-is = refl

pattern-read : (b : Bool) → f32 (float_bits (cond b 2 1)) ≡ cond b two one
pattern-read true = two_is
pattern-read false = one-is

last-two : (n k : ℕ) → k + 1 ≡ n → strength n k ≡ two
last-two n k e = rw (eq-eqb (k + 1) n e)

other-one : (n k : ℕ) → (k + 1 ≡ n → ⊥) → strength n k ≡ one
other-one n k e = rw (ne_eqb (k + 1) n e)

-- 1 and 2 in order
one-not-below : (b : Bool) → lt (cond b two one) one ≡ false
unfolding lt of_bits
one-not-below true = refl
one-not-below false = refl

-- the median of n strengths is entry n / 2, as they stand
median-is : (n : ℕ) → 0 < n → median_of (list_of n (strength n)) ≡ strength n (n / 2)
unfolding median_of
median-is n h =
    rw (sort-listed lt (strength n) n (λ i j l m. rw (other-one n i (λ e. omega arith)) (one-not-below (eqb (j + 1) n))), length-list n (strength n))
    (list_at n (strength n) (n / 2) nan (omega arith))

module _ (n : ℕ) (few : n ≤ max_points) where
  abbrev strengths : List Float
  strengths = strengths_of (worst_points n)

  strength-read : (k : ℕ) → k < n → get_or strengths k nan ≡ strength n k
  unfolding strengths_of
  strength-read k h =
      column-at max_points nan (length (worst_points n)) (λ (k : ℕ). f32 (get_or (worst_points n) k nowhere).strength) k (omega (arith, point-count n few))
      ∙ ap (λ (p : Point). f32 p.strength) (point-is n few k h) ∙ pattern-read (eqb (k + 1) n)

  median-read : 0 < n → strength n (n / 2) ≡ median_of (first_of n strengths)
  median-read h = sym (ap median_of (list_ext nan n (λ (k : ℕ). get_or strengths k nan) (strength n) strength-read) ∙ median-is n h)

  -- each point by its strength and twice the median
  weak-is : (k : ℕ) → k < n → is_set (weak_marks n) k ≡ lt (strength n k) (two ⊗ strength n (n / 2))
  weak-is k h =
      let m = strength n (n / 2) in
      set_is max_points n (λ (k : ℕ). lt (get_or strengths k nan) (two ⊗ m)) (weak_marks n) (ap (λ (x : Fraction). weak_by x n strengths) fraction-is ∙ sym (weak-by n strengths two m (median-read (omega arith)))) k h
      ∙ ap (λ (x : Float). lt x (two ⊗ m)) (strength-read k h)

  -- of three or more points the median is 1
  module _ (three : 3 ≤ n) where
    by_one : (k : ℕ) → k < n → is_set (weak_marks n) k ≡ lt (strength n k) (two ⊗ one)
    by_one k h = weak-is k h ∙ rw (other-one n (n / 2) (λ e. omega arith))

    pub others-weak : (k : ℕ) → k + 1 < n → is_set (weak_marks n) k ≡ true
    unfolding lt mul of_bits
    others-weak k h = by_one k (omega arith) ∙ rw (other-one n k (λ e. omega arith))

    pub last-strong : (k : ℕ) → k + 1 ≡ n → is_set (weak_marks n) k ≡ false
    unfolding lt mul of_bits
    last-strong k e = by_one k (omega arith) ∙ rw (last-two n k e)

-- of two it is 2, and the last is weak too: three are needed
pub two-weak : (k : ℕ) → k < 2 → is_set (weak_marks 2) k ≡ true
unfolding lt mul of_bits
two-weak k h = weak-is 2 (omega arith) k h ∙ below (eqb (k + 1) 2)
  where
    below : (b : Bool) → lt (cond b two one) (two ⊗ two) ≡ true
    below true = refl
    below false = refl
