use Rattle.std.proofs.Common.{◌<◌, ◌∙◌, length, arith, ltb-false}
use Rattle.offsets.proofs.Places.{places-long}
use Rattle.view.specs.Seen.{lattice_in}
use Rattle.view.proofs.Found.{not-found, found}
use Rattle.patches.proofs.Searching.{list-few, side-is, expand-skip, expand-more, expand-end}
use Rattle.patches.proofs.search.Search.expand.Goals as goal
use Rattle.patches.proofs.search.Search.expand.Goals.{in-Some, in_default}

pub offset_bounds-self-head : goal.offset_bounds-self-head
offset_bounds-self-head c = omega (arith, c.requires.1, list-few c.args.self.now.list)

pub bounds-self-head : goal.bounds-self-head
bounds-self-head c = omega (arith, c.requires.1, list-few c.args.self.now.list)

pub loop-o-preserved : goal.loop-o-preserved
loop-o-preserved c =
    let a = c.args in
    let i = c.loop-o.o-index in
    let w = a.linked.now in
    let below : i < length w.sides.now = omega arith in
    let at = side-is (lattice_in w.lattice) w.sides.now c.from-x.result i c.o-item.result below c.o-item.is in (
      c.loop-o.invariant.0,
      elim c.match-neighbour.branch [
        | in-Some b ↦ rw b.self-is (expand-more c.loop-o.invariant.1 c.loop-o.self.list (omega (arith, b.in-Some.ensures.inside, w.lattice.few)) (omega (arith, places-long w.sides.now)) (at ∙ found _ _ b.in-Some.ensures.value) b.visit.ensures)
        | in_default b ↦ rw b.self-is (expand-skip c.loop-o.invariant.1 (omega (arith, at, ltb-false _ _ (not-found _ _ b.in_default.ensures.value))))
      ],
    )

pub returns : goal.returns
returns c = expand-end c.loop-o.invariant.1 (omega (arith, places-long c.args.linked.now.sides.now))
