-- What a step of the walk takes, by which of the next two points comes first. Assumes nothing.
use Rattle.std.specs.Prelude.{◌≡◌, [], ◌∷◌, ℕ, suc, ◌+◌, ◌-◌, ◌≤◌, ◌<◌, Option, IfSome, IfNone}
use Prim.{Dec, yes, no}
use native.Mathlib.Decide.{dec_lt}
use Rattle.std.specs.Bool.{then_some}
use Rattle.std.proofs.Common.{arith, ltb, le-ltb, lt-ltb}
use Rattle.folds.specs.Lists.{up_from}
use Rattle.merged.specs.Merged.{merged}
use Rattle.merged.specs.Sources.{source_key}
use Rattle.merged.specs.Walk.{rest_of, Taken}
use Rattle.merged.specs.declared.halves.Halves.{Halves}
use Rattle.merged.specs.declared.Step.{Step}

-- of n numbers those from the i-th on, which is `at`: that one and those after it, or none
numbers-next : (at n i : ℕ) → i < n → up_from (λ (k : ℕ). k) at (n - i) ≡ at ∷ up_from (λ (k : ℕ). k) (at + 1) (n - (i + 1))
unfolding up_from
numbers-next at n i h = let e : n - i ≡ suc (n - (i + 1)) = omega arith in let s : suc at ≡ at + 1 = omega arith in rw (e, s)

numbers-done : (at n i : ℕ) → n ≤ i → up_from (λ (k : ℕ). k) at (n - i) ≡ []
unfolding up_from
numbers-done at n i h = let z : n - i ≡ 0 = omega arith in rw z

module _ (h : Halves) (i j : ℕ) where
  -- how many points are in each table
  abbrev n : ℕ
  n = h.left.count

  abbrev m : ℕ
  m = h.right.count

  -- the right points from rank j on
  right-next : j < m → up_from (λ (k : ℕ). k) (n + j) (m - j) ≡ (n + j) ∷ up_from (λ (k : ℕ). k) (n + (j + 1)) (m - (j + 1))
  right-next l = let e : (n + j) + 1 ≡ n + (j + 1) = omega arith in rw e at (numbers-next (n + j) m j l)

  -- what is to come at the end of the right points, and of the left ones
  left-alone : i < n → m ≤ j → rest_of h i j ≡ i ∷ rest_of h (i + 1) j
  unfolding rest_of merged
  left-alone l g = rw (numbers-next i n i l, numbers-done (n + j) m j g)

  right-alone : n ≤ i → j < m → rest_of h i j ≡ (n + j) ∷ rest_of h i (j + 1)
  unfolding rest_of merged
  right-alone g l = rw (numbers-done i n i g, right-next l)

  -- and of two points, by their keys
  left-less : i < n → j < m → source_key h i < source_key h (n + j) → rest_of h i j ≡ i ∷ rest_of h (i + 1) j
  unfolding rest_of merged
  left-less l k e =
      rw (numbers-next i n i l, right-next k, le-ltb (source_key h (n + j)) (source_key h i) (omega arith), lt-ltb (source_key h i) (source_key h (n + j)) e)

  right-less : i < n → j < m → source_key h (n + j) < source_key h i → rest_of h i j ≡ (n + j) ∷ rest_of h i (j + 1)
  unfolding rest_of merged
  right-less l k e = rw (numbers-next i n i l, right-next k, lt-ltb (source_key h (n + j)) (source_key h i) e)

  both-same : i < n → j < m → source_key h i ≡ source_key h (n + j) → rest_of h i j ≡ i ∷ rest_of h (i + 1) (j + 1)
  unfolding rest_of merged
  both-same l k e =
      rw (numbers-next i n i l, right-next k, le-ltb (source_key h (n + j)) (source_key h i) (omega arith), le-ltb (source_key h i) (source_key h (n + j)) (omega arith))

  -- at the end of both nothing is
  pub none-left : n ≤ i → m ≤ j → rest_of h i j ≡ []
  unfolding rest_of merged
  none-left g k = rw (numbers-done i n i g, numbers-done (n + j) m j k)

  -- ---- the steps: to the next left point, to the next right one, and past both

  abbrev by_left : Step
  by_left = record { number = i; left = i + 1; right = j }

  abbrev by_right : Step
  by_right = record { number = n + j; left = i; right = j + 1 }

  abbrev by_both : Step
  by_both = record { number = i; left = i + 1; right = j + 1 }

  -- a step is one if its point comes first of those to come
  take-left : i < n → j ≤ m → rest_of h i j ≡ i ∷ rest_of h (i + 1) j → Taken h i j by_left
  take-left l k e = record { first = e; known = omega arith; left = omega arith; right = omega arith; further = omega arith }

  take-right : i ≤ n → j < m → rest_of h i j ≡ (n + j) ∷ rest_of h i (j + 1) → Taken h i j by_right
  take-right l k e = record { first = e; known = omega arith; left = omega arith; right = omega arith; further = omega arith }

  -- by what is left, and by the keys
  pub takes-left-alone : i < n → j ≡ m → Taken h i j by_left
  takes-left-alone l k = take-left l (omega arith) (left-alone l (omega arith))

  pub takes-right-alone : i ≡ n → j < m → Taken h i j by_right
  takes-right-alone l k = take-right (omega arith) k (right-alone (omega arith) k)

  pub takes-left : i < n → j < m → source_key h i < source_key h (n + j) → Taken h i j by_left
  takes-left l k e = take-left l (omega arith) (left-less l k e)

  pub takes-right : i < n → j < m → source_key h (n + j) < source_key h i → Taken h i j by_right
  takes-right l k e = take-right (omega arith) k (right-less l k e)

  pub takes-both : i < n → j < m → source_key h i ≡ source_key h (n + j) → Taken h i j by_both
  takes-both l k e = record { first = both-same l k e; known = omega arith; left = omega arith; right = omega arith; further = omega arith }

  -- where no right point is left, as the code has it
  pub takes-at-end : {r : Option Step} → i ≤ n → j ≡ m → r ≡ then_some (ltb i n) by_left → IfSome r (λ (s : Step). Taken h i j s) × IfNone r (rest_of h i j ≡ [])
  takes-at-end {r} l k e = go (dec_lt i n)
    where
      go : Dec (i < n) → IfSome r (λ (s : Step). Taken h i j s) × IfNone r (rest_of h i j ≡ [])
      go (yes p) = rw (e, lt-ltb i n p) (takes-left-alone p k, tt)
      go (no p) = rw (e, le-ltb i n (omega arith)) (tt, none-left (omega arith) (omega arith))
