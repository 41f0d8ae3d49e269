use Prim.Native.Nat.{◌*◌, ◌≤◌}
use Rattle.grid.proofs.Swept.{Swept}
use Rattle.grid.proofs.KeyedPoints.fill_near.Given as goal

abbrev pub invariant-loop-i : goal.invariant-loop-i
invariant-loop-i l = (l.i ≤ 5 * l.self.points.count) × Swept l.self.points.keys.now l.self.points.count l.initial.ranks l.ranks l.reached l.i
