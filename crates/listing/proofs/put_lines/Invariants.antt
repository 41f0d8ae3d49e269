-- The lines of the first k ranks are stored, of any figures with these reasons.
use Rattle.std.proofs.Common.{◌≡◌, ℕ, List, ◌<◌, get_or, Option}
use Rattle.cells.specs.Cell.{cells_at}
use Rattle.edge_shape.specs.Figures.{no_figures}
use Rattle.edge_shape.specs.declared.Figures.{Figures}
use Rattle.edge_shape.specs.declared.Reason.{Reason}
use Rattle.judged.specs.Judged.{judged_from}
use Rattle.text.specs.Stored.{Stored}
use Rattle.listing.specs.Listing.{lines_of}
use Rattle.listing.proofs.put_lines.Given as goal

abbrev pub invariant-loop-k : goal.invariant-loop-k
invariant-loop-k g l =
    (figures : List Figures) → ((k : ℕ) (r : Option Reason) → k < l.points.count → goal.F-post g l.reason k r → r ≡ (get_or figures k no_figures).reason)
    → Stored l.initial.w (lines_of (cells_at l.points.keys.now) l.points.idx.now (judged_from l.j figures) l.k) l.w
