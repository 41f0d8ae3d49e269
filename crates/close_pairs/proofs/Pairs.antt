-- The pairs that the sweep marks are all the close pairs. Assumes nothing.
use mathlib.Core.Path.{◌≡◌, refl, sym, ap, ◌∙◌}
use mathlib.Core.Bool.{Bool, true, false, cond, not, ◌&&◌, ◌||◌, true≢false}
use mathlib.Core.List.{List}
use Prim.Native.Nat.{ℕ, ◌+◌, ◌≤◌, ◌<◌}
use native.Mathlib.Omega.{arith}
use native.Mathlib.Decide.{ℕ_discrete, dec_lt}
use Prim.{yes, no}
use lib.Dec.{eqb, ltb}
use borrow.Author.Tests.{lt-ltb, le-ltb, ltb-true, eq-eqb, ne_eqb, eqb-true}
use lib.ListN.{get_or}
use lib.Ieee.{Float, nan, lt}
use Rattle.folds.specs.Arith.{◌⊖◌, zero_f}
use Rattle.folds.specs.Below.{some}
use Rattle.folds.proofs.Below.{some-yes, some_at, some-no}
use Rattle.folds.proofs.Column.{column-at}
use Rattle.folds.specs.Marked.{Marked}
use Rattle.view.specs.View.{View, max_points, view_at, Finite}
use Rattle.sort.specs.Packed.{packed}
use Rattle.sort.proofs.Packed.{placed_below, placed-is, place_of, placed-rises}
use Rattle.close_pairs.specs.Close.{close, square_of, close_mark, limit_of}
use Rattle.median.specs.Keys.{key_at}
use Rattle.close_pairs.specs.Ranks.{rank_in, OrderedByX}
use Rattle.close_pairs.specs.Sweep.{close_in, square_x, pair_hits, sweep_hits, Sweepable}
use Rattle.close_pairs.proofs.Places.{place, rising-order}
use Rattle.close_pairs.proofs.Squares.{far, square-turned, none-close}
use Rattle.std.proofs.Math.Bool.{and-false, or-true}
use Rattle.std.proofs.lemmas.Bool.{and_parts}
use Rattle.std.specs.Cmp.{both_ways}

-- ---- one pair

-- two ranks that are marked already stay as they are
pub pair-marked : (near : Bool) (a b : ℕ) (marks : List ℕ) → eqb (get_or marks a 0) 1 && eqb (get_or marks b 0) 1 ≡ true → Marked (λ (m : ℕ). near && (eqb a m || eqb b m)) marks marks
pair-marked near a b marks h = record { size = refl; at = λ m l. kept m (near && (eqb a m || eqb b m)) refl }
  where
    one : (m : ℕ) (t : Bool) → eqb a m ≡ t → t || eqb b m ≡ true → get_or marks m 0 ≡ 1
    one m true e u = rw (← eqb-true a m e) (eqb-true (get_or marks a 0) 1 (and_parts (eqb (get_or marks a 0) 1) (eqb (get_or marks b 0) 1) h).0)
    one m false e u = rw (← eqb-true b m u) (eqb-true (get_or marks b 0) 1 (and_parts (eqb (get_or marks a 0) 1) (eqb (get_or marks b 0) 1) h).1)

    kept : (m : ℕ) (t : Bool) → near && (eqb a m || eqb b m) ≡ t → get_or marks m 0 ≡ cond t 1 (get_or marks m 0)
    kept m true e = one m (eqb a m) refl (and_parts near (eqb a m || eqb b m) e).1
    kept m false e = refl

-- ---- the loop of a sweep

some-cut : (p : ℕ → Bool) (j n : ℕ) → j ≤ n → ((k : ℕ) → j ≤ k → k < n → p k ≡ false) → some p j ≡ some p n
some-cut p j n l h =
    both_ways (some p j) (some p n)
    (λ e. let w = some_at p j e in some-yes p n w.0 (omega (arith, w.1)) w.2)
    (λ e. let w = some_at p n e in some-yes p j w.0 (before w.0 w.1 w.2) w.2)
  where
    before : (k : ℕ) → k < n → p k ≡ true → k < j
    before k m t = elim (dec_lt k j) [ yes y ↦ y | no f ↦ absurd (true≢false (sym t ∙ h k (omega (arith, f)) m)) ]

module _ (order : List ℕ) (xs ys : List Float) (limit : Float) (n i : ℕ) where
  -- nothing up to i itself
  pub sweep-none : (m : ℕ) → some (λ j. pair_hits order xs ys limit i j m) (i + 1) ≡ false
  unfolding pair_hits
  sweep-none m = some-no (λ j. pair_hits order xs ys limit i j m) (i + 1) (λ j l. rw (le-ltb i j (omega arith)))

  pub pair_is : (j m : ℕ) → i < j → close_in xs ys limit (get_or order j 0) (get_or order i 0) && (eqb (get_or order i 0) m || eqb (get_or order j 0) m) ≡ pair_hits order xs ys limit i j m
  unfolding pair_hits
  pair_is j m h = rw (lt-ltb i j h)

  pub sweep-stop : (s : Sweepable order xs ys limit n) (j m : ℕ) → i < j → j < n → lt (square_x xs (get_or order j 0) (get_or order i 0)) limit ≡ false
      → some (λ k. pair_hits order xs ys limit i k m) j ≡ sweep_hits order xs ys limit n i m
  unfolding pair_hits
  sweep-stop s j m ij jn h =
      some-cut (λ k. pair_hits order xs ys limit i k m) j n (omega arith)
      (λ k l g. rw (s.stop i j k ij l g h) (and-false (ltb i k)))

-- ---- the order of x is one along which a sweep may stop

module _ (order : List ℕ) (xs ys : List Float) (n : ℕ) (few : n ≤ max_points) (o : OrderedByX xs n order) (fy : Finite n ys) where
  rank : (i : ℕ) → i < n → get_or order i 0 ≡ rank_in xs n i
  rank i h = rw o.is (column-at max_points 0 n (rank_in xs n) i h)

  inside : (i : ℕ) → i < n → rank_in xs n i < n
  inside i h = placed_below (key_at xs) n (omega arith) i h

  places : (i j : ℕ) → i < j → j < n → place (get_or xs (rank_in xs n i) nan) ≤ place (get_or xs (rank_in xs n j) nan)
  places i j h l =
      rising-order (get_or xs (rank_in xs n i) nan) (get_or xs (rank_in xs n j) nan) (o.numbers (rank_in xs n i) (inside i (omega arith))) (o.numbers (rank_in xs n j) (inside j l))
      (omega (arith, placed-rises (key_at xs) n (omega arith) i j h l, placed-is (key_at xs) n (omega arith) i (omega arith), placed-is (key_at xs) n (omega arith) j l, inside i (omega arith), inside j l))

  places-le : (j k : ℕ) → j ≤ k → k < n → place (get_or xs (rank_in xs n j) nan) ≤ place (get_or xs (rank_in xs n k) nan)
  places-le j k h l = elim (ℕ_discrete j k) [ yes e ↦ rw e (omega arith) | no f ↦ places j k (omega (arith, f)) l ]

  pub sweepable : (limit : Float) → Sweepable order xs ys limit n
  unfolding close square_of
  sweepable limit = record {
    few = few;
    ranks = λ i h. rw (rank i h) (inside i h);
    stop = λ i j k ij jk kn h.
        let hi : i < n = omega arith in
        let hj : j < n = omega arith in
        rw (rank i hi, rank k kn)
        (far (get_or xs (rank_in xs n i) nan) (get_or xs (rank_in xs n j) nan) (get_or xs (rank_in xs n k) nan) (get_or ys (rank_in xs n k) nan) (get_or ys (rank_in xs n i) nan) limit
        (o.numbers (rank_in xs n i) (inside i hi)) (o.numbers (rank_in xs n j) (inside j hj)) (o.numbers (rank_in xs n k) (inside k kn)) (fy (rank_in xs n k) (inside k kn)) (fy (rank_in xs n i) (inside i hi))
        (places i j ij hj) (places-le j k jk kn) (rw (rank i hi, rank j hj) at h));
  }

  -- ---- and it meets every pair

  close-turned : (limit : Float) (j k : ℕ) → j < n → k < n → close_in xs ys limit j k ≡ close_in xs ys limit k j
  unfolding close square_of
  close-turned limit j k hj hk =
      rw (square-turned (get_or xs j nan) (get_or xs k nan) (o.numbers j hj).is_finite (o.numbers k hk).is_finite, square-turned (get_or ys j nan) (get_or ys k nan) (fy j hj) (fy k hk))

  apart : (i j : ℕ) → i < j → j < n → rank_in xs n i ≡ rank_in xs n j → ⊥
  apart i j h l e =
      let q = ap (packed (key_at xs)) e in
      omega (arith, placed-rises (key_at xs) n (omega arith) i j h l, placed-is (key_at xs) n (omega arith) i (omega arith), placed-is (key_at xs) n (omega arith) j l, q)

  abbrev others : Float → ℕ → ℕ → Bool
  others limit m j = not (eqb j m) && close_in xs ys limit j m

  hit : (limit : Float) (m i j : ℕ) → i < j → j < n → close_in xs ys limit (rank_in xs n j) (rank_in xs n i) ≡ true → eqb (rank_in xs n i) m || eqb (rank_in xs n j) m ≡ true → some (λ i. sweep_hits order xs ys limit n i m) n ≡ true
  unfolding pair_hits
  hit limit m i j ij jn c t =
      let hi : i < n = omega arith in
      some-yes (λ i. sweep_hits order xs ys limit n i m) n i hi
      (some-yes (λ j. pair_hits order xs ys limit i j m) n j jn (rw (lt-ltb i j ij, rank i hi, rank j jn, c, t)))

  -- ranks m and j, at places p and q
  met : (limit : Float) (m j p q : ℕ) → p < n → q < n → rank_in xs n p ≡ m → rank_in xs n q ≡ j → (j ≡ m → ⊥) → close_in xs ys limit j m ≡ true → some (λ i. sweep_hits order xs ys limit n i m) n ≡ true
  met limit m j p q hp hq a b ne c =
      elim (dec_lt p q) [
        | yes l ↦ hit limit m p q l hq (rw (a, b) c) (rw (eq-eqb (rank_in xs n p) m a))
        | no f ↦ elim (ℕ_discrete p q) [
          | yes e ↦ absurd (ne (sym b ∙ ap (rank_in xs n) (sym e) ∙ a))
          | no g ↦ hit limit m q p (omega (arith, f, g)) hp (close-turned limit (rank_in xs n p) (rank_in xs n q) (inside p hp) (inside q hq) ∙ rw (a, b) c) (rw (eq-eqb (rank_in xs n p) m a) (or-true (eqb (rank_in xs n q) m)))
        ]
      ]

  found : (limit : Float) (m i j : ℕ) → i < j → j < n → close_in xs ys limit (rank_in xs n j) (rank_in xs n i) ≡ true → eqb (rank_in xs n i) m || eqb (rank_in xs n j) m ≡ true → some (others limit m) n ≡ true
  found limit m i j ij jn c t = go (eqb (rank_in xs n i) m) refl t
    where
      hi : i < n
      hi = omega arith

      go : (b : Bool) → eqb (rank_in xs n i) m ≡ b → b || eqb (rank_in xs n j) m ≡ true → some (others limit m) n ≡ true
      go true e t =
          let a : rank_in xs n i ≡ m = eqb-true (rank_in xs n i) m e in
          some-yes (others limit m) n (rank_in xs n j) (inside j jn) (rw (ne_eqb (rank_in xs n j) m (λ b. apart i j ij jn (a ∙ sym b))) (rw a at c))
      go false e t =
          let b : rank_in xs n j ≡ m = eqb-true (rank_in xs n j) m t in
          some-yes (others limit m) n (rank_in xs n i) (inside i hi) (rw (ne_eqb (rank_in xs n i) m (λ a. apart i j ij jn (a ∙ sym b))) (rw b at (close-turned limit (rank_in xs n i) (rank_in xs n j) (inside i hi) (inside j jn) ∙ c)))

  from-pair : (limit : Float) (m i j : ℕ) → i < n → j < n → pair_hits order xs ys limit i j m ≡ true → some (others limit m) n ≡ true
  unfolding pair_hits
  from-pair limit m i j hi hj e =
      let C = close_in xs ys limit (rank_in xs n j) (rank_in xs n i) in
      let M = eqb (rank_in xs n i) m || eqb (rank_in xs n j) m in
      let f : ltb i j && (C && M) ≡ true = rw (rank i hi, rank j hj) at e in
      let g = (and_parts (ltb i j) (C && M) f).1 in
      found limit m i j (ltb-true i j (and_parts (ltb i j) (C && M) f).0) hj (and_parts C M g).0 (and_parts C M g).1

  pub pairs-are : (limit : Float) (m : ℕ) → m < n → some (λ i. sweep_hits order xs ys limit n i m) n ≡ some (others limit m) n
  pairs-are limit m h = both_ways (some (λ i. sweep_hits order xs ys limit n i m) n) (some (others limit m) n) out back
    where
      out : some (λ i. sweep_hits order xs ys limit n i m) n ≡ true → some (others limit m) n ≡ true
      out e =
          let a = some_at (λ i. sweep_hits order xs ys limit n i m) n e in
          let b = some_at (λ j. pair_hits order xs ys limit a.0 j m) n a.2 in
          from-pair limit m a.0 b.0 a.1 b.1 b.2

      differs : (a b : ℕ) → not (eqb a b) ≡ true → a ≡ b → ⊥
      differs a b t e = true≢false (sym t ∙ ap not (eq-eqb a b e))

      back : some (others limit m) n ≡ true → some (λ i. sweep_hits order xs ys limit n i m) n ≡ true
      back e =
          let a = some_at (others limit m) n e in
          let p = place_of (key_at xs) n (omega arith) m h in
          let q = place_of (key_at xs) n (omega arith) a.0 a.1 in
          met limit m a.0 p.0 q.0 p.1 q.1 p.2 q.2 (differs a.0 m (and_parts (not (eqb a.0 m)) (close_in xs ys limit a.0 m) a.2).0) (and_parts (not (eqb a.0 m)) (close_in xs ys limit a.0 m) a.2).1

  -- nothing past n
  past_pairs : (limit : Float) (m : ℕ) → n ≤ m → some (λ i. sweep_hits order xs ys limit n i m) n ≡ false
  unfolding pair_hits
  past_pairs limit m h =
      some-no (λ i. sweep_hits order xs ys limit n i m) n
      (λ i hi. some-no (λ j. pair_hits order xs ys limit i j m) n
      (λ j hj. let a = inside i hi in let b = inside j hj in rw (rank i hi, rank j hj, ne_eqb (rank_in xs n i) m (λ e. omega (arith, a, e)), ne_eqb (rank_in xs n j) m (λ e. omega (arith, b, e)), and-false (close_in xs ys limit (rank_in xs n j) (rank_in xs n i))) (and-false (ltb i j))))

  -- what the sweep marks, with a positive cell size
  pub swept : (ranks : List ℕ) (cell : Float) (m : ℕ) → lt zero_f cell ≡ true
      → some (λ i. sweep_hits order xs ys (limit_of cell) n i m) n ≡ ltb m n && close_mark (view_at n ranks xs ys) cell m
  unfolding close_mark
  swept ranks cell m c =
      elim (dec_lt m n) [
        | yes l ↦ rw (lt-ltb m n l, c) (pairs-are (limit_of cell) m l)
        | no f ↦ (let g : n ≤ m = omega (arith, f) in rw (le-ltb m n g) (past_pairs (limit_of cell) m g))
      ]

-- where the limit is 0, no point is close to another
pub nothing-close : (w : View) (cell : Float) (k : ℕ) → lt zero_f (limit_of cell) ≡ false → close_mark w cell k ≡ false
unfolding close_mark close
nothing-close w cell k h =
    rw (some-no (λ j. not (eqb j k) && close w.x w.y (limit_of cell) j k) w.count (λ j l. rw (none-close (w.x j ⊖ w.x k) (w.y j ⊖ w.y k) (limit_of cell) h) (and-false (not (eqb j k))))) (and-false (lt zero_f cell))
