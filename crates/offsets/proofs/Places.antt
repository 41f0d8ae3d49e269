-- Offsets within 2 and their places: one for one. Assumes nothing.
use mathlib.Core.Path.{◌≡◌, refl, ap, ◌∙◌}
use mathlib.Core.Bool.{true, false}
use mathlib.Core.List.{List, [], ◌∷◌}
use Prim.Native.Nat.{ℕ, zero, suc, ◌/◌, ◌%◌, ◌≤◌, ◌<◌}
use native.Mathlib.Omega.{arith}
use lib.IntN.{ℤ, pos, negsuc, nat_abs, ◌-ℤ◌, -ℤ-+ℤ_cancel}
use lib.Dec.{leb}
use lib.ListN.{length, get_or}
use mir.Syntax.{w8}
use mir.Val.{to_z, of_z}
use borrow.Author.Tests.{leb-true}
use Rattle.offsets.specs.Pair.{Offset}
use Rattle.offsets.specs.Offsets.{−2, −1, ±0, +1, +2, offset, own, prev_uv, square_sides, is_within2, is_near, up_by2, place_of, offset_of, places}
use Rattle.std.proofs.lemmas.Bool.{and_from, and_parts}

-- ---- the whole numbers from −2 to 2

-- what holds of each of them holds of a number that is one of them
pub each-within-2 : (P : ℤ → Type 0) → P −2 → P −1 → P ±0 → P +1 → P +2 → (z : ℤ) → is_within2 z ≡ true → P z
each-within-2 P a b c d e (negsuc zero) h = b
each-within-2 P a b c d e (negsuc (suc zero)) h = a
each-within-2 P a b c d e (negsuc (suc (suc n))) h = absurd (omega (arith, leb-true (suc (suc n)) 1 (and_parts (leb (suc (suc n)) 1) true h).0))
each-within-2 P a b c d e (pos zero) h = c
each-within-2 P a b c d e (pos (suc zero)) h = d
each-within-2 P a b c d e (pos (suc (suc zero))) h = e
each-within-2 P a b c d e (pos (suc (suc (suc n)))) h = absurd (omega (arith, leb-true (suc (suc (suc n))) 2 h))

-- as 8 bits it is itself
pub held : (z : ℤ) → is_within2 z ≡ true → to_z w8 (of_z w8 z) ≡ z
held = each-within-2 (λ z. to_z w8 (of_z w8 z) ≡ z) refl refl refl refl refl

-- plus 2 it is one of 0 to 4, and says which it was
up-by-2 : (z : ℤ) → is_within2 z ≡ true → (up_by2 z ≤ 4) × (pos (up_by2 z) -ℤ +2 ≡ z)
up-by-2 = each-within-2 (λ z. (up_by2 z ≤ 4) × (pos (up_by2 z) -ℤ +2 ≡ z)) (omega arith, refl) (omega arith, refl) (omega arith, refl) (omega arith, refl) (omega arith, refl)

-- the whole number e less 2
down-by-2 : (e : ℕ) → up_by2 (pos e -ℤ +2) ≡ e
down-by-2 e = ap nat_abs (-ℤ-+ℤ_cancel (pos e) +2)

down-within : (e : ℕ) → e < 5 → is_within2 (pos e -ℤ +2) ≡ true
down-within zero h = refl
down-within (suc zero) h = refl
down-within (suc (suc zero)) h = refl
down-within (suc (suc (suc zero))) h = refl
down-within (suc (suc (suc (suc zero)))) h = refl
down-within (suc (suc (suc (suc (suc e))))) h = absurd (omega arith)

-- ---- offsets and places

module _ (o : Offset) (h : is_near o ≡ true) where
  pub within-u : is_within2 o.du ≡ true
  within-u = (and_parts (is_within2 o.du) (is_within2 o.dv) h).0

  pub within-v : is_within2 o.dv ≡ true
  within-v = (and_parts (is_within2 o.du) (is_within2 o.dv) h).1

  -- a part that was stored as 8 bits
  pub held-u : to_z w8 (of_z w8 o.du) ≡ o.du
  held-u = held o.du within-u

  pub held-v : to_z w8 (of_z w8 o.dv) ≡ o.dv
  held-v = held o.dv within-v

  along-u : (up_by2 o.du ≤ 4) × (pos (up_by2 o.du) -ℤ +2 ≡ o.du)
  along-u = up-by-2 o.du within-u

  along-v : (up_by2 o.dv ≤ 4) × (pos (up_by2 o.dv) -ℤ +2 ≡ o.dv)
  along-v = up-by-2 o.dv within-v

  pub place-below : place_of o < 25
  place-below = omega (arith, along-u.0, along-v.0)

  -- an offset follows from its place
  pub place-offset : offset_of (place_of o) ≡ o
  place-offset =
      let a : place_of o / 5 ≡ up_by2 o.du = omega (arith, along-v.0) in
      let b : place_of o % 5 ≡ up_by2 o.dv = omega (arith, along-v.0) in
      rw (a, b) (ap (λ z. offset z (pos (up_by2 o.dv) -ℤ +2)) along-u.1 ∙ ap (offset o.du) along-v.1)

-- each of the 25 places has an offset within 2
pub offset_near : (d : ℕ) → d < 25 → is_near (offset_of d) ≡ true
offset_near d h = and_from _ _ (down-within (d / 5) (omega arith)) (down-within (d % 5) (omega arith))

-- a place follows from its offset
pub offset-place : (d : ℕ) → place_of (offset_of d) ≡ d
offset-place d = rw (down-by-2 (d / 5), down-by-2 (d % 5)) (omega arith)

-- ---- lists

pub places-long : (l : List Offset) → length (places l) ≡ length l
places-long [] = refl
places-long (o ∷ l) = ap suc (places-long l)

pub places-at : (l : List Offset) (i : ℕ) → i < length l → get_or (places l) i 0 ≡ place_of (get_or l i own)
places-at [] i h = absurd (omega arith)
places-at (o ∷ l) zero h = refl
places-at (o ∷ l) (suc i) h = places-at l i (omega arith)

-- ---- by computing

pub places-computed : (place_of own ≡ 12) × (places square_sides ≡ 17 ∷ 13 ∷ 7 ∷ 11 ∷ []) × (offset_of 6 ≡ prev_uv)
places-computed = (refl, refl, refl)

-- (0, 3) is not within 2, and has the place of (1, −2); place 25 has no offset within 2
pub beyond-2 : (place_of (offset ±0 (pos 3)) ≡ place_of (offset +1 −2)) × (is_near (offset ±0 (pos 3)) ≡ false) × (is_near (offset_of 25) ≡ false)
beyond-2 = (refl, refl, refl)
