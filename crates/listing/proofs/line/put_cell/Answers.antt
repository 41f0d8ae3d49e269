use Rattle.listing.specs.Listing.{cell_text}
use Rattle.text.proofs.Stores.{stored-then}
use Rattle.listing.proofs.line.put_cell.Goals as goal

pub returns : goal.returns
unfolding cell_text
returns c =
    stored-then (stored-then (rw c.u_part.ensures at c.put_cell_number.ensures) c.byte.ensures) (rw c.v_part.ensures at c.put_cell_number-2.ensures)
