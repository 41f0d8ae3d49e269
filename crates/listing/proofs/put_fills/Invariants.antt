use Rattle.cells.specs.Cell.{cells_at}
use Rattle.text.specs.Stored.{Stored}
use Rattle.listing.specs.Listing.{fill_lines}
use Rattle.listing.proofs.put_fills.Given as goal

abbrev pub invariant-loop-k : goal.invariant-loop-k
invariant-loop-k l = Stored l.initial.w (fill_lines (cells_at l.points.keys.now) l.marks l.fills l.k) l.w
