use Rattle.std.proofs.Common.{◌≡◌}
use Rattle.offsets.specs.Offsets.{places}
use Rattle.peel.specs.Work.{live_beside}
use Rattle.peel.proofs.round.Round.is_leaf.Given as goal

abbrev pub invariant-loop-o : goal.invariant-loop-o
invariant-loop-o l = l.count ≡ live_beside l.self.links.now.sheet.lattice.count l.self.links.now.sheet.lattice.ranks.now l.self.state.now (places l.self.links.now.sides.now) l.o-index l.k
