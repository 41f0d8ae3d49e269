use Rattle.std.proofs.Common.{◌≡◌, ◌<◌, ◌+◌, ◌*◌, ◌∙◌, ap, length, arith, ltb-false}
use Rattle.offsets.specs.Offsets.{places}
use Rattle.offsets.proofs.Places.{places-long}
use Rattle.view.proofs.Found.{not-found, found}
use Rattle.patches.proofs.Lattices.{item-place}
use Rattle.peel.specs.Work.{near_at}
use Rattle.peel.proofs.Searching.{searched-then, searched-same, beside-more, beside-none}
use Rattle.peel.proofs.removals.Removals.around.Goals as goal
use Rattle.peel.proofs.removals.Removals.around.Goals.{in-Some, in_default}

pub loop-o-preserved : goal.loop-o-preserved
loop-o-preserved c =
    let v = c.args.round.now.links.now in
    let i = c.loop-o.o-index in
    let below : i < length v.sides.now = omega arith in
    let at = ap (λ d. near_at v.sheet.lattice.ranks.now (25 * c.args.x + d)) (item-place v.sides.now i c.o-item.result below c.o-item.is) in
    elim c.match-neighbour.branch [
      | in-Some w ↦ rw w.self-is (searched-then _ (λ k l. beside-more v.sheet.lattice.ranks.now (places v.sides.now) c.args.x i w.in-Some.k (at ∙ found _ _ w.in-Some.ensures.value) k) c.loop-o.invariant w.consider.ensures)
      | in_default w ↦ rw w.self-is (searched-same _ (λ k l. beside-none v.sheet.lattice.count v.sheet.lattice.ranks.now (places v.sides.now) c.args.x i (omega (arith, at, ltb-false _ _ (not-found _ _ w.in_default.ensures.value))) k l) c.loop-o.invariant)
    ]

pub returns : goal.returns
returns c =
    let e : c.loop-o.o-index ≡ length (places c.args.round.now.links.now.sides.now) = omega (arith, places-long c.args.round.now.links.now.sides.now) in rw e at c.loop-o.invariant
