use Rattle.grid.specs.Tables.{entry_in}
use Rattle.grid.proofs.Indices.{Walked}
use Rattle.grid.proofs.KeyedPoints.fill_indices.Given as goal

abbrev pub invariant-loop-i : goal.invariant-loop-i
invariant-loop-i l = Walked (entry_in l.self.points.idx.now) l.self.points.count l.order l.initial.ranks l.i l.ranks l.last
