-- Weak marks are 0 or 1, go by the strengths of the first n points alone, and are the same for points of one strength. Assumes nothing.
use mathlib.Core.Path.{◌≡◌, refl, sym, ap, ◌∙◌}
use mathlib.Core.List.{List, [], ◌∷◌}
use Prim.Native.Nat.{ℕ, zero, suc, ◌≤◌, ◌<◌}
use Prim.{yes, no}
use native.Mathlib.Decide.{dec_lt}
use native.Mathlib.Omega.{arith}
use lib.ListN.{length, get_or}
use lib.Ieee.{Float, nan, lt, of_bits}
use Rattle.folds.specs.Arith.{◌⊗◌}
use Rattle.folds.specs.Column.{column}
use Rattle.folds.specs.Marked.{bit}
use Rattle.folds.proofs.Marked.{bit_le}
use Rattle.folds.proofs.Lists.{list_at, list_ext}
use Rattle.folds.proofs.Column.{length-column, column-at, column-over, column-ext}
use Rattle.float.specs.Constants.{one, two, minus_one}
use Rattle.view.specs.View.{max_points}
use Rattle.median.specs.Median.{median_of, first_of}
use Rattle.strengths.specs.Weak.{is_weak, weak_of}

is-weak : (fraction : Float) (l : List Float) (k : ℕ) → is_weak fraction l k ≡ lt (get_or l k nan) (fraction ⊗ median_of l)
unfolding is_weak
is-weak fraction l k = refl

module _ (n : ℕ) (strength : List Float) (fraction : Float) where
  abbrev strength_at : ℕ → Float
  strength_at k = get_or strength k nan

  abbrev mark_at : ℕ → ℕ
  mark_at k = bit (is_weak fraction (first_of n strength) k)

  weak-is : weak_of n strength fraction ≡ column max_points 0 n mark_at
  unfolding weak_of
  weak-is = refl

  -- by a median that is worked out once
  pub weak-by : (median : Float) → median ≡ median_of (first_of n strength) → column max_points 0 n (λ (k : ℕ). bit (lt (get_or strength k nan) (fraction ⊗ median))) ≡ weak_of n strength fraction
  weak-by median e =
      column-ext max_points 0 n (λ (k : ℕ). bit (lt (get_or strength k nan) (fraction ⊗ median))) mark_at
      (λ k h. rw (is-weak fraction (first_of n strength) k, e, list_at n strength_at k nan h)) ∙ sym weak-is

  pub weak-length : n ≤ max_points → length (weak_of n strength fraction) ≡ max_points
  weak-length h = rw weak-is (length-column max_points 0 n mark_at h)

  -- 1 just where the point is weak
  pub weak-at : (k : ℕ) → k < n → get_or (weak_of n strength fraction) k 0 ≡ bit (is_weak fraction (first_of n strength) k)
  weak-at k h = rw weak-is (column-at max_points 0 n mark_at k h)

  -- 0 beyond the points
  pub weak-over : (k : ℕ) → n ≤ k → get_or (weak_of n strength fraction) k 0 ≡ 0
  weak-over k h = rw weak-is (column-over max_points 0 n mark_at k h)

  pub weak-most : (k : ℕ) → get_or (weak_of n strength fraction) k 0 ≤ 1
  weak-most k = elim (dec_lt k n) [ yes h ↦ rw (weak-at k h) (bit_le (is_weak fraction (first_of n strength) k)) | no h ↦ rw (weak-over k (omega (arith, h))) (omega arith) ]

  -- points of one strength are weak together
  pub weak-alike : (j k : ℕ) → j < n → k < n → get_or strength j nan ≡ get_or strength k nan → get_or (weak_of n strength fraction) j 0 ≡ get_or (weak_of n strength fraction) k 0
  weak-alike j k hj hk e =
      let l = first_of n strength in
      rw (weak-at j hj, weak-at k hk, is-weak fraction l j, is-weak fraction l k, list_at n strength_at j nan hj, list_at n strength_at k nan hk, e)

-- only the strengths of the first n points count
pub weak-same : (n : ℕ) (a b : List Float) (fraction : Float) → ((k : ℕ) → k < n → get_or a k nan ≡ get_or b k nan) → weak_of n a fraction ≡ weak_of n b fraction
weak-same n a b fraction h =
    weak-is n a fraction
    ∙ ap (λ (l : List Float). column max_points 0 n (λ (k : ℕ). bit (is_weak fraction l k))) (list_ext nan n (λ (k : ℕ). get_or a k nan) (λ (k : ℕ). get_or b k nan) h)
    ∙ sym (weak-is n b fraction)

-- a third strength does not count for two points
one-beyond : weak_of 2 (one ∷ two ∷ minus_one ∷ []) two ≡ weak_of 2 (one ∷ two ∷ []) two
one-beyond = weak-same 2 (one ∷ two ∷ minus_one ∷ []) (one ∷ two ∷ []) two same
  where
    same : (k : ℕ) → k < 2 → get_or (one ∷ two ∷ minus_one ∷ []) k nan ≡ get_or (one ∷ two ∷ []) k nan
    same zero h = refl
    same (suc zero) h = refl
    same (suc (suc k)) h = absurd (omega arith)

-- but that of one of the points does
one-within : (get_or (weak_of 1 (one ∷ []) two) 0 0 ≡ 1) × (get_or (weak_of 1 (minus_one ∷ []) two) 0 0 ≡ 0)
unfolding weak_of of_bits
one-within = (refl, refl)
