use mathlib.Core.Path.{◌≡◌}
use Prim.Native.Nat.{◌≤◌}
use Rattle.view.specs.View.{rows_at}
use Rattle.cells.specs.Cell.{cells_at}
use Rattle.grid.specs.Tables.{first_in_row, spliced}
use Rattle.grid.proofs.Firsts.{v_parts, Tabled}
use Rattle.grid.proofs.KeyedPoints.fill_rows.Given as goal

abbrev pub invariant-loop-k : goal.invariant-loop-k
invariant-loop-k l = (l.k ≤ l.self.points.count) × Tabled (v_parts l.self.points.keys.now) l.seen l.k × (l.ranks ≡ spliced rows_at l.k (first_in_row l.self.points.count (cells_at l.self.points.keys.now)) l.initial.ranks)
