-- The table is in order: its one computed test, and what that says of each place and of each offset. A table with two entries exchanged, or
-- with one repeated in the place of another, fails the test. Assumes nothing.
use mathlib.Core.Path.{◌≡◌, refl, ap, sym, ◌∙◌, subst}
use mathlib.Core.Bool.{true, false, not, ◌&&◌, true≢false}
use mathlib.Core.List.{List, [], ◌∷◌}
use Prim.Native.Nat.{ℕ, ◌<◌}
use lib.Dec.{eqb}
use lib.IntN.{ℤ, pos}
use lib.ListN.{length, get_or, set, length-set}
use lib.Seq.{get_or-set_same, get_or-set_other}
use native.Mathlib.Omega.{arith}
use borrow.Author.Tests.{eqb-true, le-ltb}
use borrow.Author.Tests as tests
use Rattle.folds.specs.Below.{every, tally}
use Rattle.folds.specs.Marked.{bit}
use Rattle.folds.proofs.Below.{every-at}
use Rattle.offsets.specs.declared.Offset.{Offset}
use Rattle.offsets.specs.Offsets.{−2, −1, ±0, +1, offset, own, is_near, place_of, offset_of, places}
use Rattle.offsets.proofs.Places.{place-below, place-offset}
use Rattle.cells.specs.Cell.{agree}
use Rattle.cells.proofs.Edges.{agree-true, not-below-itself}
use Rattle.local_h.specs.Order.{nearest_first, offset_at, same, square_of, comes_first, is_ordered, is_around, are_around, each_once, is_nearest_first}
use Rattle.std.proofs.Math.Bool.{and-false}
use Rattle.std.proofs.lemmas.Bool.{and_parts, false_from_ne_true}

pub order-right : is_nearest_first nearest_first ≡ true
unfolding is_nearest_first
order-right = refl

tested : (l : List Offset) → is_nearest_first l ≡ true → (is_ordered l ≡ true) × (are_around l ≡ true) × (each_once l ≡ true)
unfolding is_nearest_first
tested l t =
    let r = (and_parts (is_ordered l) (are_around l && each_once l) t).1 in
    ((and_parts (is_ordered l) (are_around l && each_once l) t).0, (and_parts (are_around l) (each_once l) r).0, (and_parts (are_around l) (each_once l) r).1)

-- in a table that passes each entry comes before all after it
ordered_at : (l : List Offset) → is_nearest_first l ≡ true → (p q : ℕ) → p < q → q < length l → comes_first (get_or l p own) (get_or l q own) ≡ true
unfolding is_ordered
ordered_at l t p q h m =
    every-at (λ (p : ℕ). comes_first (get_or l p own) (get_or l q own)) q
    (every-at (λ (q : ℕ). every (λ (p : ℕ). comes_first (get_or l p own) (get_or l q own)) q) (length l) (tested l t).0 q m) p h

-- "nearest first, then smaller dv, then smaller du"
pub offsets-ordered : (p q : ℕ) → p < q → q < 24 → comes_first (offset_at p) (offset_at q) ≡ true
offsets-ordered p q h l = ordered_at nearest_first order-right p q h l

-- none comes before itself
pub never-before : (o : Offset) → comes_first o o ≡ false
never-before o =
    let s = square_of o in
    rw (le-ltb s s (omega arith), not-below-itself o.dv, not-below-itself o.du, and-false (agree o.dv o.dv)) (and-false (eqb s s))

-- so no two places have one offset
pub offsets-differ : (p q : ℕ) → p < q → q < 24 → same (offset_at p) (offset_at q) ≡ false
offsets-differ p q h l =
    false_from_ne_true (same (offset_at p) (offset_at q))
    (λ e. true≢false (sym (offsets-ordered p q h l) ∙ ap (comes_first (offset_at p)) (sym (one (offset_at p) (offset_at q) e)) ∙ never-before (offset_at p)))
  where
    one : (a b : Offset) → same a b ≡ true → a ≡ b
    one a b e =
        ap (λ (z : ℤ). offset z a.dv) (agree-true a.du b.du (and_parts (agree a.du b.du) (agree a.dv b.dv) e).0)
        ∙ ap (offset b.du) (agree-true a.dv b.dv (and_parts (agree a.du b.du) (agree a.dv b.dv) e).1)

-- "the 24 cells within 2": each place leads to one of them
pub offset-around : (p : ℕ) → p < 24 → is_around (offset_at p) ≡ true
unfolding are_around
offset-around p h = every-at (λ (p : ℕ). is_around (offset_at p)) 24 (tested nearest_first order-right).1 p h

pub entry-near : (p : ℕ) → p < 24 → is_near (offset_at p) ≡ true
entry-near p h = (and_parts (is_near (offset_at p)) (not (same (offset_at p) own)) (offset-around p h)).0

-- and each of them stands at one place
abbrev count : Offset → ℕ
count o = tally (λ (p : ℕ). same (offset_at p) o) 24

counted : (l : List Offset) → each_once l ≡ true → (d : ℕ) → d < 25 → tally (λ (p : ℕ). same (get_or l p own) (offset_of d)) (length l) ≡ bit (is_around (offset_of d))
unfolding each_once
counted l t d h =
    eqb-true (tally (λ (p : ℕ). same (get_or l p own) (offset_of d)) (length l)) (bit (is_around (offset_of d)))
    (every-at (λ (d : ℕ). eqb (tally (λ (p : ℕ). same (get_or l p own) (offset_of d)) (length l)) (bit (is_around (offset_of d)))) 25 t d h)

pub stands-once : (o : Offset) → is_around o ≡ true → count o ≡ 1
stands-once o h =
    let n = (and_parts (is_near o) (not (same o own)) h).0 in
    subst (λ (o : Offset). count o ≡ bit (is_around o)) (place-offset o n) (counted nearest_first (tested nearest_first order-right).2 (place_of o) (place-below o n)) ∙ ap bit h

-- ---- what fails the test

abbrev pub exchanged : ℕ → ℕ → List Offset
exchanged p q = set (set nearest_first p (offset_at q)) q (offset_at p)

abbrev pub repeated : ℕ → ℕ → List Offset
repeated p q = set nearest_first q (offset_at p)

-- no entry comes before one that stands before it
none-back : every (λ (q : ℕ). every (λ (p : ℕ). not (comes_first (offset_at q) (offset_at p))) q) 24 ≡ true
unfolding every
none-back = refl

not_back : (p q : ℕ) → p < q → q < 24 → comes_first (offset_at q) (offset_at p) ≡ false
not_back p q h l =
    tests.not-true _
    (every-at (λ (p : ℕ). not (comes_first (offset_at q) (offset_at p))) q (every-at (λ (q : ℕ). every (λ (p : ℕ). not (comes_first (offset_at q) (offset_at p))) q) 24 none-back q l) p h)

-- a table fails if its entry at p does not come before that at q
fails_by : (l : List Offset) (a b : Offset) (p q : ℕ) → p < q → q < length l → get_or l p own ≡ a → get_or l q own ≡ b → comes_first a b ≡ false → is_nearest_first l ≡ false
fails_by l a b p q h m ea eb e = false_from_ne_true (is_nearest_first l) (λ t. true≢false (sym (ordered_at l t p q h m) ∙ rw (ea, eb) e))

module _ (p q : ℕ) (h : p < q) (l : q < 24) where
  pub exchanged-fails : is_nearest_first (exchanged p q) ≡ false
  exchanged-fails =
      let once = set nearest_first p (offset_at q) in
      let long : length once ≡ 24 = length-set nearest_first p (offset_at q) in
      fails_by (exchanged p q) (offset_at q) (offset_at p) p q h (omega (arith, length-set once q (offset_at p), long))
      (get_or-set_other once q p (offset_at p) own (omega arith) ∙ get_or-set_same nearest_first p (offset_at q) own (omega arith)) (get_or-set_same once q (offset_at p) own (omega (arith, long))) (not_back p q h l)

  pub repeated-fails : (is_nearest_first (repeated p q) ≡ false) × (is_nearest_first (repeated q p) ≡ false)
  repeated-fails = (
    fails_by (repeated p q) (offset_at p) (offset_at p) p q h (omega (arith, length-set nearest_first q (offset_at p))) (get_or-set_other nearest_first q p (offset_at p) own (omega arith)) (get_or-set_same nearest_first q (offset_at p) own (omega arith)) (never-before (offset_at p)),
    fails_by (repeated q p) (offset_at q) (offset_at q) p q h (omega (arith, length-set nearest_first p (offset_at q))) (get_or-set_same nearest_first p (offset_at q) own (omega arith)) (get_or-set_other nearest_first p q (offset_at q) own (omega arith)) (never-before (offset_at q)),
  )

-- ---- by computing

-- (0, −1) comes before (−1, 0)
pub sides-ordered : comes_first (offset ±0 −1) (offset −1 ±0) ≡ true
sides-ordered = offsets-ordered 0 1 (omega arith) (omega arith)

-- the entries by their places among the 25
pub order-places : places nearest_first ≡ 11 ∷ 7 ∷ 17 ∷ 13 ∷ 6 ∷ 16 ∷ 8 ∷ 18 ∷ 10 ∷ 2 ∷ 22 ∷ 14 ∷ 5 ∷ 15 ∷ 1 ∷ 21 ∷ 3 ∷ 23 ∷ 9 ∷ 19 ∷ 0 ∷ 20 ∷ 4 ∷ 24 ∷ []
order-places = refl

-- (−2, 1) stands once; the corner's own offset and one that is not within 2 stand nowhere
pub once-or-never : (count (offset −2 +1) ≡ 1) × (count own ≡ 0) × (count (offset ±0 (pos 3)) ≡ 0)
unfolding tally
once-or-never = (stands-once (offset −2 +1) refl, refl, refl)

-- an entry exchanged with itself, or repeated in its own place, changes nothing
pub unchanged-passes : (is_nearest_first (exchanged 5 5) ≡ true) × (is_nearest_first (repeated 5 5) ≡ true)
unfolding is_nearest_first
unchanged-passes = (refl, refl)
