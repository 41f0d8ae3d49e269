use mathlib.Core.Path.{◌≡◌}
use Prim.Native.Nat.{◌≤◌}
use Rattle.view.specs.View.{columns_at}
use Rattle.cells.specs.Cell.{cells_at}
use Rattle.grid.specs.Tables.{first_in_column, spliced}
use Rattle.grid.proofs.Firsts.{u_parts, Started}
use Rattle.grid.proofs.KeyedPoints.fill_columns.Given as goal

abbrev pub invariant-loop-k : goal.invariant-loop-k
invariant-loop-k l = (l.k ≤ l.self.points.count) × Started (u_parts l.self.points.keys.now) l.start l.k × (l.ranks ≡ spliced columns_at l.k (first_in_column l.self.points.count (cells_at l.self.points.keys.now)) l.initial.ranks)
