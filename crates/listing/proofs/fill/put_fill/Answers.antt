use borrow.Author.Tests.{ne_eqb}
use Rattle.listing.specs.Listing.{fill_text}
use Rattle.text.proofs.Stores.{stored-then}
use Rattle.listing.proofs.fill.put_fill.Goals as goal

pub returns : goal.returns
unfolding fill_text
returns c =
    rw (ne_eqb _ _ c.if-marks-eq0.false) (stored-then (stored-then (stored-then c.put_cell.ensures c.byte.ensures) c.put_prediction.ensures) c.byte-2.ensures)
