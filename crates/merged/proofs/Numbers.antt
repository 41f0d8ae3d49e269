-- The numbers of the joined points: which they are, how many, what stands for them; the keys that they go by; and what an answer of them says.
-- Assumes nothing.
use Rattle.std.specs.Prelude.{◌≡◌, List, ◌∷◌, map, ℕ, zero, suc, ◌+◌, ◌-◌, ◌≤◌, ◌<◌, length, get_or, None, Some}
use Rattle.std.proofs.Common.{refl, sym, ap, ◌∙◌, arith, lt-ltb, le-ltb}
use Prim.{Dec, yes, no}
use native.Mathlib.Decide.{dec_lt}
use Rattle.std.proofs.lemmas.Option.{none-some}
use Rattle.std.proofs.lemmas.List.{get_or_past}
use Rattle.folds.specs.Column.{column}
use Rattle.folds.specs.Lists.{All, up_from, list_of}
use Rattle.folds.proofs.Column.{column-at, column-over}
use Rattle.view.specs.View.{max_points}
use Rattle.sort.proofs.Sorted.{all-at}
use Rattle.merged.specs.Merged.{merged}
use Rattle.merged.specs.Sources.{widened, own, source_key, sources_of, in_array}
use Rattle.merged.specs.declared.halves.Halves.{Halves}
use Rattle.merged.specs.declared.halves.Sources.{Sources}
use Rattle.merged.proofs.Elements.{merged-length, merged-all, merged-map}

-- ---- keys

-- a key and its wide key rise together
pub widened-rises : (up_u up_v k l : ℕ) → up_v ≤ 32000 → k < l → widened up_u up_v k < widened up_u up_v l
widened-rises up_u up_v k l h r = omega arith

-- the key of a left point, and of a right one
pub left-key : (h : Halves) (s : ℕ) → s < h.left.count → source_key h s ≡ widened own own (get_or h.left.keys.now s 0)
unfolding source_key
left-key h s l = rw (lt-ltb s h.left.count l)

pub right-key : (h : Halves) (k : ℕ) → source_key h (h.left.count + k) ≡ widened h.up_u h.up_v (get_or h.right.keys.now k 0)
unfolding source_key
right-key h k = let e : (h.left.count + k) - h.left.count ≡ k = omega arith in rw (le-ltb (h.left.count + k) h.left.count (omega arith), e)

-- ---- numbers that follow one another, and what stands for them

module _ {A : Type 0} (g : ℕ → A) where
  -- what all have
  all-from : (P : A → Type 0) (at n : ℕ) → ((k : ℕ) → at ≤ k → k < at + n → P (g k)) → All P (up_from g at n)
  unfolding up_from
  all-from P at zero h = tt
  all-from P at (suc n) h = (h at (omega arith) (omega arith), all-from P (suc at) n (λ k l m. h k (omega arith) (omega arith)))

  -- how many they are
  length-from : (at n : ℕ) → length (up_from g at n) ≡ n
  unfolding up_from
  length-from at zero = refl
  length-from at (suc n) = ap suc (length-from (suc at) n)

  -- what stands for them
  map-from : (at n : ℕ) → map g (up_from (λ (k : ℕ). k) at n) ≡ up_from g at n
  unfolding up_from
  map-from at zero = refl
  map-from at (suc n) = ap (◌∷◌ (g at)) (map-from (suc at) n)

  -- counted from a later start
  from-on : (by at n : ℕ) → up_from g (by + at) n ≡ up_from (λ (k : ℕ). g (by + k)) at n
  unfolding up_from
  from-on by at zero = refl
  from-on by at (suc n) = let e : suc (by + at) ≡ by + suc at = omega arith in rw e (ap (◌∷◌ (g (by + at))) (from-on by (suc at) n))

module _ (h : Halves) where
  -- how many points are in each table
  abbrev n : ℕ
  n = h.left.count

  abbrev m : ℕ
  m = h.right.count

  -- each is a number of a point
  pub sources-known : All (λ (s : ℕ). s < h.left.count + h.right.count) (sources_of h)
  unfolding sources_of
  sources-known =
      merged-all (source_key h) (λ (s : ℕ). s < n + m) (up_from (λ (k : ℕ). k) 0 n) (up_from (λ (k : ℕ). k) n m)
      (all-from (λ (k : ℕ). k) (λ (s : ℕ). s < n + m) 0 n (λ k l u. omega arith)) (all-from (λ (k : ℕ). k) (λ (s : ℕ). s < n + m) n m (λ k l u. u))

  -- no more than there are points
  pub sources-length : length (sources_of h) ≤ h.left.count + h.right.count
  unfolding sources_of
  sources-length =
      omega (arith, merged-length (source_key h) (up_from (λ (k : ℕ). k) 0 n) (up_from (λ (k : ℕ). k) n m), length-from (λ (k : ℕ). k) 0 n, length-from (λ (k : ℕ). k) n m)

  -- the things that stand for the numbers, in their order: those of the left points and those of the right ones, merged by a key that is theirs
  pub sources-map : {A : Type 0} (key : A → ℕ) (g : ℕ → A) → ((s : ℕ) → s < h.left.count + h.right.count → source_key h s ≡ key (g s))
      → map g (sources_of h) ≡ merged key (list_of h.left.count g) (list_of h.right.count (λ (k : ℕ). g (h.left.count + k)))
  unfolding sources_of list_of
  sources-map {A} key g e =
      sym (merged-map g key (source_key h) (up_from (λ (k : ℕ). k) 0 n) (up_from (λ (k : ℕ). k) n m) (keyed 0 n (omega arith)) (keyed n m (omega arith)))
      ∙ ap (merged key (map g (up_from (λ (k : ℕ). k) 0 n))) (map-from g n m ∙ right) ∙ ap (λ (l : List A). merged key l (up_from (λ (k : ℕ). g (n + k)) 0 m)) (map-from g 0 n)
    where
      keyed : (at c : ℕ) → at + c ≤ n + m → All (λ (s : ℕ). source_key h s ≡ key (g s)) (up_from (λ (k : ℕ). k) at c)
      keyed at c w = all-from (λ (k : ℕ). k) (λ (s : ℕ). source_key h s ≡ key (g s)) at c (λ k l u. e k (omega arith))

      right : up_from g n m ≡ up_from (λ (k : ℕ). g (n + k)) 0 m
      right = let z : n + 0 ≡ n = omega arith in rw z at (from-on g n 0 m)

-- ---- an answer

-- s has the numbers l
pub record Arrayed (l : List ℕ) (s : Sources) : Type 0 where
  pub count : s.count ≡ length l
  pub few : length l ≤ max_points
  pub at : (k : ℕ) → get_or s.order k 0 ≡ get_or l k 0

-- the answer if they fit
abbrev all_of : List ℕ → Sources
all_of l = record { count = length l; order = column max_points 0 (length l) (λ (k : ℕ). get_or l k 0) }

-- what is read of it
column-is : (l : List ℕ) (k : ℕ) → get_or (column max_points 0 (length l) (λ (i : ℕ). get_or l i 0)) k 0 ≡ get_or l k 0
column-is l k = go (dec_lt k (length l))
  where
    go : Dec (k < length l) → get_or (column max_points 0 (length l) (λ (i : ℕ). get_or l i 0)) k 0 ≡ get_or l k 0
    go (yes h) = column-at max_points 0 (length l) (λ (i : ℕ). get_or l i 0) k h
    go (no h) = column-over max_points 0 (length l) (λ (i : ℕ). get_or l i 0) k (omega arith) ∙ sym (get_or_past l k 0 (omega arith))

-- what each answer says
pub none-fits : (l : List ℕ) → None ≡ in_array l → max_points < length l
none-fits l e = go (dec_lt max_points (length l))
  where
    go : Dec (max_points < length l) → max_points < length l
    go (yes y) = y
    go (no x) = absurd (none-some (all_of l) (rw (le-ltb max_points (length l) (omega arith)) at e))

pub some-fits : (l : List ℕ) (s : Sources) → Some s ≡ in_array l → Arrayed l s
some-fits l s e = go (dec_lt max_points (length l))
  where
    go : Dec (max_points < length l) → Arrayed l s
    go (yes y) = absurd (none-some s (sym (rw (lt-ltb max_points (length l) y) at e)))
    go (no x) =
        let f : Some s ≡ Some (all_of l) = rw (le-ltb max_points (length l) (omega arith)) at e in
        let w : s ≡ all_of l = cc in
        record { count = ap (λ (r : Sources). r.count) w; few = omega arith; at = λ k. ap (λ (r : Sources). get_or r.order k 0) w ∙ column-is l k }

-- what stands at a place of the array of an answer is a number of a point
pub source-known : (h : Halves) (s : Sources) → Arrayed (sources_of h) s → (k : ℕ) → k < s.count → get_or s.order k 0 < h.left.count + h.right.count
source-known h s a k l = rw (a.at k) (all-at (λ (s : ℕ). s < h.left.count + h.right.count) 0 (sources_of h) (sources-known h) k (omega (arith, a.count)))
