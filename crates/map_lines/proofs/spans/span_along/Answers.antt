use mathlib.Core.Path.{◌≡◌, refl, sym, ap, ◌∙◌}
use mathlib.Core.Bool.{cond}
use mathlib.Core.List.{List, [], ◌∷◌}
use Prim.Native.Nat.{ℕ, ◌+◌, ◌-◌, ◌^◌, ◌<◌, ◌≤◌}
use native.Mathlib.Omega.{arith}
use borrow.Author.Tests.{ne_eqb}
use lib.Dec.{eqb}
use lib.IntN.{ℤ, pos, neg_ℤ, ◌+ℤ◌}
use lib.ListN.{get_or, length}
use Rattle.cells.specs.Points.{bias}
use Rattle.cells.specs.Cell.{cells_at}
use Rattle.map_lines.specs.Map.{smallest, span}
use Rattle.map_lines.specs.Page.{along, part, Spans}
use Rattle.offsets.specs.declared.axis.Axis.{Axis}
use Rattle.offsets.specs.declared.axis.Axis.TheVariants.{AlongU, AlongV}
use Rattle.map_lines.proofs.Ends.{Ends, ends-start, ends_more, smallest-end, span-ends}
use Rattle.map_lines.proofs.spans.span_along.Goals as goal

coordinates : (axis : Axis) (keys : List ℕ) → ◌≡◌ {A = ℕ → ℤ} (λ (k : ℕ). along axis (cells_at keys k)) (λ (k : ℕ). pos (part axis (get_or keys k 0)) +ℤ neg_ℤ (pos bias))
coordinates AlongU keys = refl
coordinates AlongV keys = refl

-- what the loop has found, at its end
ended : (axis : Axis) (keys : List ℕ) (n a b count : ℕ) → b < 2 ^ 32 → Ends (λ (j : ℕ). part axis (get_or keys j 0)) n a b → count ≡ cond (eqb n 0) 0 (b - a + 1) → Spans axis keys n (record { least = a; count = count })
ended axis keys n a b count small h e =
    record {
      least-is = sym (ap (λ (z : ℕ → ℤ). smallest z n) (coordinates axis keys) ∙ smallest-end (λ (j : ℕ). part axis (get_or keys j 0)) n a b h (neg_ℤ (pos bias)));
      count-is = e ∙ sym (ap (λ (z : ℕ → ℤ). span z n) (coordinates axis keys) ∙ span-ends (λ (j : ℕ). part axis (get_or keys j 0)) n a b h (neg_ℤ (pos bias)));
      small = omega (arith, h.ordered);
      inside = λ k l. ((h.inside k l).0, omega (arith, (h.inside k l).1, h.ordered, some l));
    }
  where
    some : {k : ℕ} → k < n → count ≡ b - a + 1
    some l = e ∙ rw (ne_eqb n 0 (λ z. omega (arith, l, z)))

-- no keys span nothing
none : (axis : Axis) → Spans axis [] 0 (record { least = 0; count = 0 })
none AlongU = ended AlongU [] 0 0 0 0 (omega arith) (ends-start (λ (j : ℕ). part AlongU (get_or [] j 0))) refl
none AlongV = ended AlongV [] 0 0 0 0 (omega arith) (ends-start (λ (j : ℕ). part AlongV (get_or [] j 0))) refl

nothing : (axis : Axis) (keys : List ℕ) → length keys ≤ 0 → Spans axis keys (length keys) (record { least = 0; count = 0 })
nothing axis [] h = none axis
nothing axis (key ∷ keys) h = absurd (omega arith)

pub returns-in_default : goal.returns-in_default
returns-in_default c = nothing c.args.axis c.args.keys.now (c.in_default.ensures.item.3)

pub loop-key-init : goal.loop-key-init
loop-key-init c =
    let a = c.args in
    let first : c.in-Some.first.now ≡ get_or a.keys.now 0 0 = c.in-Some.ensures.item.4 (omega arith) 0 in
    (c.coordinate-least.ensures.1, rw (c.coordinate-least.ensures.0, first) (ends-start (λ (j : ℕ). part a.axis (get_or a.keys.now j 0))))

pub loop-key-preserved : goal.loop-key-preserved
loop-key-preserved c =
    let a = c.args in
    let p : ℕ → ℕ = λ j. part a.axis (get_or a.keys.now j 0) in
    let e = c.coordinate-c.ensures in
    (omega (arith, c.max-most.ensures), rw (c.max-most.ensures, c.min-least.ensures, e.0) (ends_more p c.loop-key.key-index c.loop-key.least c.loop-key.most c.loop-key.invariant.1))

pub returns : goal.returns
returns c =
    let keys = c.args.keys.now in
    let f = c.in-Some.ensures.item in
    let n : c.loop-key.key-index ≡ length keys = omega arith in
    ended c.args.axis keys (length keys) c.loop-key.least c.loop-key.most (c.loop-key.most - c.loop-key.least + 1) c.loop-key.invariant.0 (rw n at c.loop-key.invariant.1)
    (rw (ne_eqb (length keys) 0 (λ z. omega (arith, z, f.3))))
