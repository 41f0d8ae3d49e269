-- What a base is, and the residual that it gives. Assumes nothing.
use mathlib.Core.Path.{◌≡◌, ap, ◌∙◌}
use mathlib.Core.Bool.{Bool, true, false, cond, not, ◌&&◌}
use Prim.Native.Nat.{ℕ, ◌+◌, ◌≤◌, ◌<◌}
use Prim.{Dec, yes, no}
use native.Mathlib.Decide.{dec_lt}
use native.Mathlib.Omega.{arith}
use lib.Dec.{ltb}
use borrow.Author.Tests.{ltb-true, not-true}
use Rattle.folds.specs.Below.{first}
use Rattle.folds.proofs.Below.{first_more, first-before, first_holds, first-from}
use Rattle.offsets.specs.declared.Offset.{Offset}
use Rattle.view.specs.View.{View}
use Rattle.local_h.specs.Order.{offset_at, same}
use Rattle.local_h.specs.Base.{member_at, on_line, is_other_rank, is_other, is_serving, is_fourth, FourPlaces, places_of}
use Rattle.local_h.proofs.Ordered.{offsets-differ}
use Rattle.std.proofs.lemmas.Bool.{and_parts}

-- four places of the order, rising, with points of other indices that are not all on one lattice line
pub record FourOthers (w : View) (k : ℕ) (b : FourPlaces) : Type 0 where
  pub first-second : b.a < b.b
  pub second-third : b.b < b.c
  pub third-fourth : b.c < b.d
  pub within : b.d < 24
  pub one : is_other w k b.a ≡ true
  pub two : is_other w k b.b ≡ true
  pub three : is_other w k b.c ≡ true
  pub four : is_other w k b.d ≡ true
  pub off-line : on_line (offset_at b.a) (offset_at b.b) (offset_at b.c) && on_line (offset_at b.a) (offset_at b.b) (offset_at b.d) ≡ false

-- Of the places before the third only the first and the second have points of other indices, and of those between the third and the fourth
-- none would have served.
pub record Four (w : View) (k : ℕ) (b : FourPlaces) : Type 0 where
  pub others : FourOthers w k b
  pub no_other : (p : ℕ) → p < b.c → (p ≡ b.a → ⊥) → (p ≡ b.b → ⊥) → is_other w k p ≡ false
  pub no-fourth : (p : ℕ) → b.c < p → p < b.d → is_fourth w k b.a b.b b.c p ≡ false

-- two places of the order lead to different cells
abbrev differ : ℕ → ℕ → Type 0
differ p q = same (offset_at p) (offset_at q) ≡ false

-- "Three are taken; the fourth is the next that leaves the four not all on one lattice line."
module _ (w : View) (k : ℕ) where
  pub base-four : (places_of w k).d < 24 → Four w k (places_of w k)
  unfolding places_of is_serving
  base-four h = record {
    others = record {
      first-second = omega (arith, bc, cd, ab);
      second-third = omega (arith, bc);
      third-fourth = omega (arith, cd);
      within = h;
      one = first_holds (is_other w k) 0 24 (omega (arith, ab, bc, cd));
      two = first_holds (is_other w k) (a + 1) 24 (omega (arith, bc, cd));
      three = first_holds (is_other w k) (b + 1) 24 (omega (arith, cd));
      four = (and_parts (not (straight d)) (is_other w k d) (serves d (first_holds (is_fourth w k a b c) (c + 1) 24 h))).1;
      off-line = not-true (straight d) (and_parts (not (straight d)) (is_other w k d) (serves d (first_holds (is_fourth w k a b c) (c + 1) 24 h))).0;
    };
    no_other = λ p l na nb. between p l na nb (dec_lt p a) (dec_lt p b);
    no-fourth = λ p l m. first-before (is_fourth w k a b c) (c + 1) 24 p (omega arith) m;
  }
    where
      a : ℕ
      a = first (is_other w k) 0 24

      b : ℕ
      b = first (is_other w k) (a + 1) 24

      c : ℕ
      c = first (is_other w k) (b + 1) 24

      d : ℕ
      d = first (is_fourth w k a b c) (c + 1) 24

      ab : a + 1 ≤ b
      ab = first-from (is_other w k) (a + 1) 24

      bc : b + 1 ≤ c
      bc = first-from (is_other w k) (b + 1) 24

      cd : c + 1 ≤ d
      cd = first-from (is_fourth w k a b c) (c + 1) 24

      straight : ℕ → Bool
      straight p = on_line (offset_at a) (offset_at b) (offset_at c) && on_line (offset_at a) (offset_at b) (offset_at p)

      serves : (p : ℕ) → is_fourth w k a b c p ≡ true → not (straight p) && is_other w k p ≡ true
      serves p e = e

      between : (p : ℕ) → p < c → (p ≡ a → ⊥) → (p ≡ b → ⊥) → Dec (p < a) → Dec (p < b) → is_other w k p ≡ false
      between p l na nb (yes m) q = first-before (is_other w k) 0 24 p (omega arith) m
      between p l na nb (no f) (yes m) = first-before (is_other w k) (a + 1) 24 p (omega (arith, f, na)) m
      between p l na nb (no f) (no g) = first-before (is_other w k) (b + 1) 24 p (omega (arith, g, nb)) l

  -- the four cells are distinct
  pub base-distinct : (b : FourPlaces) → FourOthers w k b
      → (differ b.a b.b) × (differ b.a b.c) × (differ b.a b.d) × (differ b.b b.c) × (differ b.b b.d) × (differ b.c b.d)
  base-distinct b f =
      let bd : b.b < b.d = omega (arith, f.second-third, f.third-fourth) in
      let cn : b.c < 24 = omega (arith, f.third-fourth, f.within) in (
        offsets-differ b.a b.b f.first-second (omega (arith, bd, f.within)),
        offsets-differ b.a b.c (omega (arith, f.first-second, f.second-third)) cn,
        offsets-differ b.a b.d (omega (arith, f.first-second, bd)) f.within,
        offsets-differ b.b b.c f.second-third cn,
        offsets-differ b.b b.d bd f.within,
        offsets-differ b.c b.d f.third-fourth f.within,
      )

  -- a place with a point of another index has a rank
  pub other-rank : (p : ℕ) → is_other w k p ≡ true → member_at w k p < w.count
  unfolding is_other
  other-rank p e = ltb-true (member_at w k p) w.count (and_parts (ltb (member_at w k p) w.count) _ e).0

  pub serving-rank : (leave : Bool) (e f : Offset) (p : ℕ) → is_serving w k leave e f p ≡ true → member_at w k p < w.count
  unfolding is_serving
  serving-rank leave e f p h = other-rank p (and_parts (not (leave && on_line e f (offset_at p))) (is_other w k p) h).1

-- the nearest four are not all on one lattice line
pub nearest-base : (w : View) (k : ℕ) → is_other_rank w k (member_at w k 0) ≡ true → is_other_rank w k (member_at w k 1) ≡ true → is_other_rank w k (member_at w k 2) ≡ true → is_other_rank w k (member_at w k 3) ≡ true
    → ◌≡◌ {A = FourPlaces} (record { a = 0; b = 1; c = 2; d = 3 }) (places_of w k)
unfolding places_of is_serving is_other on_line
nearest-base w k a b c d =
    rw (here (is_other w k) 0 (omega arith) a, here (is_other w k) 1 (omega arith) b, here (is_other w k) 2 (omega arith) c, here (is_fourth w k 0 1 2) 3 (omega arith) d)
  where
    here : (p : ℕ → Bool) (i : ℕ) → i < 24 → p i ≡ true → first p i 24 ≡ i
    here p i h e = first_more p i 24 h ∙ ap (λ (t : Bool). cond t i (first p (i + 1) 24)) e
