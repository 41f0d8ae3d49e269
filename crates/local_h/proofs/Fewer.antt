-- "With fewer than four there is no fit": a base is short of its fourth only where no four of the 24 cells have points of other indices and
-- are not all on one lattice line. Assumes nothing.
use mathlib.Core.Path.{◌≡◌, refl, sym, ◌∙◌}
use mathlib.Core.Bool.{Bool, true, false, not, ◌&&◌, ◌||◌, true≢false}
use Prim.Native.Nat.{ℕ, ◌+◌, ◌≤◌, ◌<◌}
use Prim.{Dec, yes, no}
use native.Mathlib.Decide.{dec_lt, ℕ_discrete}
use native.Mathlib.Omega.{arith}
use lib.IntN.{◌-ℤ◌, ◌*ℤ◌, +ℤ_invr, *ℤ-zero, zero-*ℤ}
use borrow.Author.Tests.{ltb-false}
use Rattle.folds.specs.Below.{every, first}
use Rattle.folds.proofs.Below.{first-before, first-from, every-at}
use Rattle.offsets.specs.declared.Offset.{Offset}
use Rattle.cells.proofs.Edges.{agree_same}
use Rattle.view.specs.View.{View}
use Rattle.local_h.specs.Order.{offset_at}
use Rattle.local_h.specs.Base.{on_line, is_other, is_serving, is_fourth, FourPlaces, places_of, has_four}
use Rattle.local_h.proofs.Bases.{FourOthers}
use Rattle.std.proofs.lemmas.Bool.{and_from, and_parts}

-- ---- lines through places of the order

abbrev in_line : ℕ → ℕ → ℕ → Bool
in_line p q r = on_line (offset_at p) (offset_at q) (offset_at r)

-- a and b are themselves in the line of a and b
first-in : (a b : Offset) → on_line a b a ≡ true
unfolding on_line
first-in a b = rw (+ℤ_invr a.du, +ℤ_invr a.dv, *ℤ-zero (b.du -ℤ a.du), zero-*ℤ (b.dv -ℤ a.dv))

second-in : (a b : Offset) → on_line a b b ≡ true
unfolding on_line
second-in a b = agree_same ((b.du -ℤ a.du) *ℤ (b.dv -ℤ a.dv)) _ refl

-- p, q and r are in one line if each is in the line of a and b
abbrev agree : ℕ → ℕ → ℕ → ℕ → ℕ → Bool
agree a b r q p = not (in_line a b p) || in_line p q r

abbrev agrees : ℕ → ℕ → ℕ → ℕ → Bool
agrees a b r q = not (in_line a b q) || every (agree a b r q) q

abbrev all_agree : ℕ → ℕ → ℕ → Bool
all_agree a b r = not (in_line a b r) || every (agrees a b r) r

lines-agree : every (λ (b : ℕ). every (λ (a : ℕ). every (all_agree a b) 24) b) 24 ≡ true
unfolding on_line every
lines-agree = refl

given : (x : Bool) {y : Bool} → not x || y ≡ true → x ≡ true → y ≡ true
given true h e = h
given false h e = absurd (true≢false (sym e))

one_line : (a b p q r : ℕ) → a < b → b < 24 → p < q → q < r → r < 24 → in_line a b p ≡ true → in_line a b q ≡ true → in_line a b r ≡ true → in_line p q r ≡ true
one_line a b p q r ab bn pq qr rn hp hq hr =
    let h = every-at (all_agree a b) 24 (every-at (λ (a : ℕ). every (all_agree a b) 24) b (every-at (λ (b : ℕ). every (λ (a : ℕ). every (all_agree a b) 24) b) 24 lines-agree b bn) a ab) r rn in
    let i = every-at (agrees a b r) r (given (in_line a b r) h hr) q qr in
    given (in_line a b p) (every-at (agree a b r q) q (given (in_line a b q) i hq) p pq) hp

-- ---- the base

module _ (w : View) (k : ℕ) where
  abbrev a : ℕ
  a = first (is_other w k) 0 24

  abbrev b : ℕ
  b = first (is_other w k) (a + 1) 24

  abbrev c : ℕ
  c = first (is_other w k) (b + 1) 24

  abbrev d : ℕ
  d = first (is_fourth w k a b c) (c + 1) 24

  not-before : (i p : ℕ) → i ≤ p → is_other w k p ≡ true → first (is_other w k) i 24 ≤ p
  not-before i p l e = go (dec_lt p (first (is_other w k) i 24))
    where
      go : Dec (p < first (is_other w k) i 24) → first (is_other w k) i 24 ≤ p
      go (yes m) = absurd (true≢false (sym e ∙ first-before (is_other w k) i 24 p l m))
      go (no f) = omega arith

  -- a place after the third that would not serve is in the line of the first two, and so is the third
  passed : (p : ℕ) → c < p → p < 24 → 24 ≤ d → is_other w k p ≡ true → in_line a b c && in_line a b p ≡ true
  unfolding is_serving
  passed p l n m e = go (in_line a b c && in_line a b p) (is_other w k p) (first-before (is_fourth w k a b c) (c + 1) 24 p (omega arith) (omega arith)) e
    where
      go : (x y : Bool) → not x && y ≡ false → y ≡ true → x ≡ true
      go true y f e = refl
      go false y f e = absurd (true≢false (sym e ∙ f))

  -- each that has a point of another index is in that line, if there is one after the third
  in-line : in_line a b c ≡ true → 24 ≤ d → (p : ℕ) → p < 24 → is_other w k p ≡ true → in_line a b p ≡ true
  in-line h m p n e = go (ℕ_discrete p a) (ℕ_discrete p b) (ℕ_discrete p c)
    where
      go : Dec (p ≡ a) → Dec (p ≡ b) → Dec (p ≡ c) → in_line a b p ≡ true
      go (yes q) f g = rw q (first-in (offset_at a) (offset_at b))
      go (no f) (yes q) g = rw q (second-in (offset_at a) (offset_at b))
      go (no f) (no g) (yes q) = rw q h
      go (no f) (no g) (no i) =
          let la = not-before 0 p (omega arith) e in
          let lb = not-before (a + 1) p (omega (arith, la, f)) e in
          let lc = not-before (b + 1) p (omega (arith, lb, g)) e in
          (and_parts (in_line a b c) (in_line a b p) (passed p (omega (arith, lc, i)) n m e)).1

  pub fewer-than-four : has_four w k ≡ false → (o : FourPlaces) → FourOthers w k o → ⊥
  unfolding places_of
  fewer-than-four e o f =
      let m : 24 ≤ d = ltb-false d 24 e in
      let la = not-before 0 o.a (omega arith) f.one in
      let lb = not-before (a + 1) o.b (omega (arith, la, f.first-second)) f.two in
      let lc = not-before (b + 1) o.c (omega (arith, lb, f.second-third)) f.three in
      let ab = first-from (is_other w k) (a + 1) 24 in
      let bc = first-from (is_other w k) (b + 1) 24 in
      let third = (and_parts (in_line a b c) (in_line a b o.d) (passed o.d (omega (arith, lc, f.third-fourth)) f.within m f.four)).0 in
      let on : (p : ℕ) → p < 24 → is_other w k p ≡ true → in_line a b p ≡ true = in-line third m in
      let p = on o.a (omega (arith, f.first-second, f.second-third, f.third-fourth, f.within)) f.one in
      let q = on o.b (omega (arith, f.second-third, f.third-fourth, f.within)) f.two in
      let r = on o.c (omega (arith, f.third-fourth, f.within)) f.three in
      let s = on o.d f.within f.four in
      let low : b < 24 = omega (arith, bc, lc, f.third-fourth, f.within) in
      true≢false
      (sym
      (and_from _ _ (one_line a b o.a o.b o.c (omega (arith, ab)) low f.first-second f.second-third (omega (arith, f.third-fourth, f.within)) p q r)
      (one_line a b o.a o.b o.d (omega (arith, ab)) low f.first-second (omega (arith, f.second-third, f.third-fourth)) f.within p q s))
      ∙ f.off-line)
