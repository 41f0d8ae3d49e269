use Rattle.std.proofs.Common.{◌∙◌, arith}
use Rattle.offsets.specs.Offsets.{places}
use Rattle.patches.proofs.Lattices.{near-places}
use Rattle.peel.proofs.Searching.{queue-few}
use Rattle.peel.proofs.Turning.{Sheet, ready_by, next-old, next-only, next-busy, next-made, next-beside, ready-done, first_made, ready-first, whole-first}
use Rattle.peel.proofs.weak_leaf_peel.Goals as goal

pub scan-requires : goal.scan-requires
scan-requires c = whole-first c.new-gone.ensures.marks

pub loop-from-init : goal.loop-from-init
loop-from-init c =
    let a = c.args in
    let v = c.new-links.result.sheet in
    let s = places c.new-links.result.sides.now in
    let e : Sheet v.lattice.count v.lattice.ranks.now s = rw (c.new-links.ensures.sheet, c.new-links.ensures.sides) (record { ranked = a.sheet.now.ranked; placed = near-places a.sides.now c.requires.0; pairs = c.requires.1; mirror = c.requires.2 }) in
    (e, ready-first _ _ _ _ _ e c.new-gone.ensures.marks (first_made _ _ _ _ _ e (rw c.new-links.ensures.sheet c.states-state.ensures)) (rw c.new-gone.ensures.none at c.scan.ensures))

pub overflow_add-rounds : goal.overflow_add-rounds
overflow_add-rounds c = omega (arith, c.loop-from.invariant.1.early, c.loop-from-test.true, queue-few c.loop-from.gone.queued)

pub loop-from-smaller : goal.loop-from-smaller
loop-from-smaller c = omega (arith, c.loop-from-test.true, queue-few c.loop-from.gone.queued)

pub loop-from-preserved : goal.loop-from-preserved
loop-from-preserved c =
    let v = c.loop-from.invariant in (
      v.0,
      ready_by _ _ _ _ _ v.0 (next-made _ _ _ _ _ v.0 v.1 c.loop-from.gone.queued c.remove.ensures c.remove.array_long) (next-old _ _ _ _ _ v.0 v.1) (next-only _ _ _ _ _ v.0 v.1)
          (omega (arith, v.1.early, c.loop-from-test.true)) (next-busy _ _ _ _ _ v.0 v.1 c.loop-from-test.true) (next-beside _ _ _ _ _ v.0 v.1) c.look.ensures,
    )

pub returns : goal.returns
returns c xs ys =
    let v = c.loop-from.invariant in
    let l = c.new-links.result in
    ready-done _ _ _ _ _ v.0 v.1 c.loop-from.gone.queued c.loop-from-test.false xs ys
    ∙ rw (c.new-links.ensures.sheet, c.new-links.ensures.sides)
