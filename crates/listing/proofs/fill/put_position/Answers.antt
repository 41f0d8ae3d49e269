use Rattle.listing.specs.Listing.{position_text}
use Rattle.text.proofs.Stores.{stored-then}
use Rattle.listing.proofs.fill.put_position.Goals as goal

pub returns : goal.returns
unfolding position_text
returns c =
    stored-then (stored-then (stored-then (stored-then (rw c.from.ensures at c.decimal.ensures) c.byte.ensures) (rw c.to_bits.ensures at c.hex.ensures)) c.byte-2.ensures) (rw c.to_bits-2.ensures at c.hex-2.ensures)
