use Rattle.std.proofs.Common.{◌-◌}
use Rattle.offsets.specs.Offsets.{places}
use Rattle.view.specs.View.{max_points}
use Rattle.peel.proofs.Turning.{Sheet, Ready}
use Rattle.peel.proofs.weak_leaf_peel.Given as goal

abbrev pub invariant-loop-from : goal.invariant-loop-from
invariant-loop-from l =
    let n = l.links.sheet.lattice.count in
    let ranks = l.links.sheet.lattice.ranks.now in
    let sides = places l.links.sides.now in
    Sheet n ranks sides × Ready n ranks sides l.dropped l.weak l.rounds l.from l.state l.gone.marks l.gone.queue l.gone.tail

abbrev pub decreases-loop-from : goal.decreases-loop-from
decreases-loop-from l = max_points - l.from
