use Rattle.grid.specs.Tables.{entry_in}
use Rattle.grid.specs.Sweep.{Behind}
use Rattle.grid.proofs.KeyedPoints.advance.Given as goal

abbrev pub invariant-loop-p : goal.invariant-loop-p
invariant-loop-p l = Behind l.self.points.count (entry_in l.self.points.keys.now) l.p l.target
