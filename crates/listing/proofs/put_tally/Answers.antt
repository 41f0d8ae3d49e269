use Rattle.std.proofs.Common.{rules}
use Rattle.listing.specs.Listing.{tally_text}
use Rattle.text.proofs.Stores.{stored-then}
use Rattle.listing.proofs.put_tally.Goals as goal

pub returns : goal.returns
unfolding tally_text
returns c = search (rules, stored-then) depth 12
