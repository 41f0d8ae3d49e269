-- The fills of the first k ranks are stored.
use Rattle.cells.specs.Cell.{cells_at}
use Rattle.text.specs.Stored.{Stored}
use Rattle.sheet_fills.specs.Bytes.{fills_bytes}
use Rattle.sheet_fills.proofs.put_fills.Given as goal

abbrev pub invariant-loop-k : goal.invariant-loop-k
invariant-loop-k l = Stored l.initial.w (fills_bytes (cells_at l.columns.points.keys.now) l.marks l.fills l.k) l.w
