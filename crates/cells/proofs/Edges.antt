-- Cells that agree are equal; a move of two cells keeps whether they agree; a shared edge is one of four offsets. Assumes nothing.
use Rattle.std.proofs.Common.{◌≡◌, ℕ, zero, suc, ◌-◌, ◌/◌, ◌%◌, ◌<◌, Bool, true, false, ◌&&◌, ◌⊎◌, get_or, ℤ, pos, negsuc, ◌+ℤ◌, ◌-ℤ◌, sym, refl, ap, ◌∙◌, inl, inr, arith, eq-eqb, eqb-true}
use mathlib.Core.Bool.{false≢true}
use lib.IntN.{+ℤ_idr, +ℤ_assoc, +ℤ_comm, +ℤ-neg_ℤ_cancel}
use Rattle.folds.proofs.Below.{some_at, some-yes}
use Rattle.offsets.specs.declared.Offset.{Offset}
use Rattle.offsets.specs.Offsets.{own, square_sides, offset_of}
use Rattle.cells.specs.Cell.{Cell, moved, agree, differ_by_one, share_edge, coincide, offset_by, joined_by}
use Rattle.std.proofs.lemmas.Bool.{and_from, and_parts, or_cases, or_left, or_right}
use Rattle.std.specs.Cmp.{both_ways}
use lib.Signed.{lt_z}
use borrow.Author.Tests.{le-ltb}

-- ---- whole numbers

pub agree-itself : (z : ℤ) → agree z z ≡ true
agree-itself (pos n) = eq-eqb n n refl
agree-itself (negsuc n) = eq-eqb n n refl

pub agree_same : (a b : ℤ) → a ≡ b → agree a b ≡ true
agree_same a b e = rw e (agree-itself b)

pub agree-true : (a b : ℤ) → agree a b ≡ true → a ≡ b
agree-true (pos a) (pos b) e = ap pos (eqb-true a b e)
agree-true (pos a) (negsuc b) e = absurd (false≢true e)
agree-true (negsuc a) (pos b) e = absurd (false≢true e)
agree-true (negsuc a) (negsuc b) e = ap negsuc (eqb-true a b e)

pub not-below-itself : (a : ℤ) → lt_z a a ≡ false
not-below-itself (pos a) = le-ltb a a (omega arith)
not-below-itself (negsuc a) = le-ltb a a (omega arith)

-- numbers moved alike agree as before
pub agree-moved : (a b c : ℤ) → agree (a +ℤ c) (b +ℤ c) ≡ agree a b
agree-moved a b c =
    both_ways (agree (a +ℤ c) (b +ℤ c)) (agree a b)
    (λ e. agree_same a b (sym (+ℤ-neg_ℤ_cancel a c) ∙ ap (λ (z : ℤ). z -ℤ c) (agree-true (a +ℤ c) (b +ℤ c) e) ∙ +ℤ-neg_ℤ_cancel b c))
    (λ e. agree_same (a +ℤ c) (b +ℤ c) (ap (λ (z : ℤ). z +ℤ c) (agree-true a b e)))

-- ---- cells

abbrev pub cell_at : ℤ → ℤ → Cell
cell_at u v = record { u = u; v = v }

pub same-cell : {u v x y : ℤ} → u ≡ x → v ≡ y → cell_at u v ≡ cell_at x y
same-cell {u} {v} {x} {y} e f = ap (λ (z : ℤ). cell_at z v) e ∙ ap (cell_at x) f

pub coincide-same : (c d : Cell) → c ≡ d → coincide c d ≡ true
coincide-same c d e = and_from (agree c.u d.u) (agree c.v d.v) (agree_same c.u d.u (ap (λ (x : Cell). x.u) e)) (agree_same c.v d.v (ap (λ (x : Cell). x.v) e))

pub coincide-true : (c d : Cell) → coincide c d ≡ true → c ≡ d
coincide-true c d e = same-cell (agree-true c.u d.u (and_parts (agree c.u d.u) (agree c.v d.v) e).0) (agree-true c.v d.v (and_parts (agree c.u d.u) (agree c.v d.v) e).1)

-- two moves in the other order
pub moves-swap : (z a b : ℤ) → (z +ℤ a) +ℤ b ≡ (z +ℤ b) +ℤ a
moves-swap z a b = +ℤ_assoc z a b ∙ ap (λ (w : ℤ). z +ℤ w) (+ℤ_comm a b) ∙ sym (+ℤ_assoc z b a)

-- cells moved alike stand to each other as before
pub offset-moved : (a b : ℤ) (o : Offset) (c e : Cell) → coincide (moved a b e) (offset_by o (moved a b c)) ≡ coincide e (offset_by o c)
offset-moved a b o c e =
    let f : offset_by o (moved a b c) ≡ moved a b (offset_by o c) = same-cell (moves-swap c.u a _) (moves-swap c.v b _) in
    ap (coincide (moved a b e)) f ∙ rw (agree-moved e.u (offset_by o c).u a, agree-moved e.v (offset_by o c).v b)

back : (z : ℤ) (e : ℕ) → e < 5 → (z +ℤ (pos e -ℤ pos 2)) +ℤ (pos (4 - e) -ℤ pos 2) ≡ z
back z e h = +ℤ_assoc z (pos e -ℤ pos 2) (pos (4 - e) -ℤ pos 2) ∙ ap (λ (w : ℤ). z +ℤ w) (opposite e h) ∙ +ℤ_idr z
  where
    opposite : (e : ℕ) → e < 5 → (pos e -ℤ pos 2) +ℤ (pos (4 - e) -ℤ pos 2) ≡ pos 0
    opposite zero h = refl
    opposite (suc zero) h = refl
    opposite (suc (suc zero)) h = refl
    opposite (suc (suc (suc zero))) h = refl
    opposite (suc (suc (suc (suc zero)))) h = refl
    opposite (suc (suc (suc (suc (suc e))))) h = absurd (omega arith)

-- the offset at place 24 - d leads back from the one at place d
pub offset-back : (d : ℕ) (c : Cell) → d < 25 → offset_by (offset_of (24 - d)) (offset_by (offset_of d) c) ≡ c
offset-back d c h =
    let a : (24 - d) / 5 ≡ 4 - d / 5 = omega arith in
    let b : (24 - d) % 5 ≡ 4 - d % 5 = omega arith in
    rw (a, b) (same-cell (back c.u (d / 5) (omega arith)) (back c.v (d % 5) (omega arith)))

-- ---- shared edges

abbrev side : ℕ → Offset
side i = get_or square_sides i own

module _ (u v x y : ℤ) where
  abbrev Over : Offset → Type 0
  Over o = cell_at x y ≡ offset_by o (cell_at u v)

  by-u : (a : ℤ) → agree x (u +ℤ a) ≡ true → agree v y ≡ true → cell_at x y ≡ moved a (pos 0) (cell_at u v)
  by-u a e f = same-cell (agree-true x (u +ℤ a) e) (sym (agree-true v y f) ∙ sym (+ℤ_idr v))

  by-v : (b : ℤ) → agree u x ≡ true → agree y (v +ℤ b) ≡ true → cell_at x y ≡ moved (pos 0) b (cell_at u v)
  by-v b e f = same-cell (sym (agree-true u x e) ∙ sym (+ℤ_idr u)) (agree-true y (v +ℤ b) f)

  side-of : share_edge (cell_at u v) (cell_at x y) ≡ true → (i : ℕ) × (i < 4) × Over (side i)
  side-of e = go (or_cases (differ_by_one u x && agree v y) (agree u x && differ_by_one v y) e)
    where
      in-u : agree v y ≡ true → (agree x (u -ℤ pos 1) ≡ true) ⊎ (agree x (u +ℤ pos 1) ≡ true) → (i : ℕ) × (i < 4) × Over (side i)
      in-u f (inl e) = (2, omega arith, by-u (negsuc 0) e f)
      in-u f (inr e) = (0, omega arith, by-u (pos 1) e f)

      in-v : agree u x ≡ true → (agree y (v -ℤ pos 1) ≡ true) ⊎ (agree y (v +ℤ pos 1) ≡ true) → (i : ℕ) × (i < 4) × Over (side i)
      in-v f (inl e) = (3, omega arith, by-v (negsuc 0) f e)
      in-v f (inr e) = (1, omega arith, by-v (pos 1) f e)

      go : (differ_by_one u x && agree v y ≡ true) ⊎ (agree u x && differ_by_one v y ≡ true) → (i : ℕ) × (i < 4) × Over (side i)
      go (inl h) = in-u (and_parts (differ_by_one u x) (agree v y) h).1 (or_cases (agree x (u -ℤ pos 1)) (agree x (u +ℤ pos 1)) (and_parts (differ_by_one u x) (agree v y) h).0)
      go (inr h) = in-v (and_parts (agree u x) (differ_by_one v y) h).0 (or_cases (agree y (v -ℤ pos 1)) (agree y (v +ℤ pos 1)) (and_parts (agree u x) (differ_by_one v y) h).1)

  over-u : (a : ℤ) → cell_at x y ≡ moved a (pos 0) (cell_at u v) → (agree x (u +ℤ a) ≡ true) × (agree v y ≡ true)
  over-u a e =
      let f : x ≡ u +ℤ a = ap (λ (c : Cell). c.u) e in
      let g : y ≡ v +ℤ pos 0 = ap (λ (c : Cell). c.v) e in
      (agree_same x (u +ℤ a) f, agree_same v y (sym (g ∙ +ℤ_idr v)))

  over-v : (b : ℤ) → cell_at x y ≡ moved (pos 0) b (cell_at u v) → (agree u x ≡ true) × (agree y (v +ℤ b) ≡ true)
  over-v b e =
      let f : x ≡ u +ℤ pos 0 = ap (λ (c : Cell). c.u) e in
      let g : y ≡ v +ℤ b = ap (λ (c : Cell). c.v) e in
      (agree_same u x (sym (f ∙ +ℤ_idr u)), agree_same y (v +ℤ b) g)

  in-u-is : differ_by_one u x ≡ true → agree v y ≡ true → share_edge (cell_at u v) (cell_at x y) ≡ true
  in-u-is e f = or_left (differ_by_one u x && agree v y) (agree u x && differ_by_one v y) (and_from (differ_by_one u x) (agree v y) e f)

  in-v-is : agree u x ≡ true → differ_by_one v y ≡ true → share_edge (cell_at u v) (cell_at x y) ≡ true
  in-v-is e f = or_right (differ_by_one u x && agree v y) (agree u x && differ_by_one v y) (and_from (agree u x) (differ_by_one v y) e f)

  of-side : (i : ℕ) → i < 4 → Over (side i) → share_edge (cell_at u v) (cell_at x y) ≡ true
  of-side zero h e = let w = over-u (pos 1) e in in-u-is (or_right (agree x (u -ℤ pos 1)) (agree x (u +ℤ pos 1)) w.0) w.1
  of-side (suc zero) h e = let w = over-v (pos 1) e in in-v-is w.0 (or_right (agree y (v -ℤ pos 1)) (agree y (v +ℤ pos 1)) w.1)
  of-side (suc (suc zero)) h e = let w = over-u (negsuc 0) e in in-u-is (or_left (agree x (u -ℤ pos 1)) (agree x (u +ℤ pos 1)) w.0) w.1
  of-side (suc (suc (suc zero))) h e = let w = over-v (negsuc 0) e in in-v-is w.0 (or_left (agree y (v -ℤ pos 1)) (agree y (v +ℤ pos 1)) w.1)
  of-side (suc (suc (suc (suc i)))) h e = absurd (omega arith)

-- two cells are joined by the four offsets of the square lattice just where they share an edge
pub joined-share : (c d : Cell) → joined_by square_sides c d ≡ share_edge c d
joined-share c d =
    both_ways (joined_by square_sides c d) (share_edge c d)
    (λ e. let w = some_at leads 4 e in of-side c.u c.v d.u d.v w.0 w.1 (coincide-true d (offset_by (side w.0) c) w.2))
    (λ e. let w = side-of c.u c.v d.u d.v e in some-yes leads 4 w.0 w.1 (coincide-same d (offset_by (side w.0) c) w.2))
  where
    leads : ℕ → Bool
    leads i = coincide d (offset_by (side i) c)
