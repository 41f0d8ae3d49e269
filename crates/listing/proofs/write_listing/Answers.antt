use Rattle.std.proofs.Common.{rules}
use Rattle.judged.specs.Judged.{judged_from}
use Rattle.listing.specs.Listing.{listing_of}
use Rattle.text.proofs.Stores.{stored-then, shows}
use Rattle.listing.proofs.write_listing.Goals as goal

pub returns : goal.returns
unfolding listing_of judged_from
returns g c figures post =
    shows c.new-w.ensures
    (stored-then (stored-then (stored-then c.put_head.ensures (c.put_lines.ensures figures post)) c.put_tally.ensures) c.put_fills.ensures) c.answer.ensures (search rules)
