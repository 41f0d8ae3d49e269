use Rattle.listing.specs.Listing.{shown_text}
use Rattle.text.proofs.Stores.{stored-then}
use Rattle.listing.proofs.line.put_shown.Goals as goal

pub returns : goal.returns
unfolding shown_text
returns c =
    stored-then (stored-then (stored-then (stored-then c.put_marks.ensures c.byte.ensures) (rw c.reason_byte.ensures at c.byte-2.ensures)) c.byte-3.ensures) c.put_residual.ensures
