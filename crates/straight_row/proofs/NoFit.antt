-- In a row no corner has a base of four: the cells near it that have points are all on one lattice line. So there is no residual.
-- Assumes nothing.
use mathlib.Core.Path.{◌≡◌, sym, ◌∙◌}
use mathlib.Core.Bool.{true, false, true≢false}
use Prim.Native.Nat.{ℕ, ◌<◌}
use native.Mathlib.Omega.{arith}
use lib.IntN.{◌-ℤ◌, *ℤ-zero}
use borrow.Author.Tests.{ltb-true, lt-ltb}
use Rattle.offsets.specs.declared.Offset.{Offset}
use Rattle.offsets.specs.Offsets.{±0}
use Rattle.view.specs.View.{View}
use Rattle.cells.specs.Cell.{Cell}
use Rattle.local_h.specs.Order.{offset_at}
use Rattle.local_h.specs.Base.{member_at, on_line, is_other, places_of, has_four}
use Rattle.local_h.specs.Residual.{residual_at}
use Rattle.std.specs.Prelude.{None}
use Rattle.local_h.proofs.Bases.{base-four, other-rank}
use Rattle.local_h.proofs.Ordered.{entry-near}
use Rattle.straight_row.specs.Row.{Row}
use Rattle.std.proofs.lemmas.Bool.{and_from, false_from_ne_true}

-- three offsets along the row are on one line
row_line : (a b c : Offset) → a.dv ≡ ±0 → b.dv ≡ ±0 → c.dv ≡ ±0 → on_line a b c ≡ true
unfolding on_line
row_line a b c p q r = rw (p, q, r, *ℤ-zero (b.du -ℤ a.du), *ℤ-zero (c.du -ℤ a.du))

module _ (w : View) (r : Row w) (k : ℕ) (h : k < w.count) where
  other-along : (p : ℕ) → p < 24 → is_other w k p ≡ true → (offset_at p).dv ≡ ±0
  other-along p l e = r.beside k (offset_at p) h (entry-near p l) (lt-ltb (member_at w k p) w.count (other-rank w k p e))

  no-four : has_four w k ≡ false
  no-four =
      false_from_ne_true (has_four w k)
      (λ e.
      let o = (base-four w k (ltb-true (places_of w k).d 24 e)).others in
      let c : (places_of w k).c < 24 = omega (arith, o.third-fourth, o.within) in
      let b : (places_of w k).b < 24 = omega (arith, o.second-third, c) in
      let along-a = other-along (places_of w k).a (omega (arith, o.first-second, b)) o.one in
      let along-b = other-along (places_of w k).b b o.two in
      true≢false
      (sym (and_from _ _ (row_line (offset_at (places_of w k).a) (offset_at (places_of w k).b) (offset_at (places_of w k).c) along-a along-b (other-along (places_of w k).c c o.three))
      (row_line (offset_at (places_of w k).a) (offset_at (places_of w k).b) (offset_at (places_of w k).d) along-a along-b (other-along (places_of w k).d o.within o.four)))
      ∙ o.off-line))

  pub no-residual : (cell : ℕ → Cell) → residual_at w cell k ≡ None
  unfolding residual_at
  no-residual cell = rw no-four
