use Rattle.std.proofs.Common.{rules}
use Rattle.listing.specs.Listing.{head_text}
use Rattle.text.proofs.Stores.{stored-then}
use Rattle.listing.proofs.put_head.Goals as goal

pub returns : goal.returns
unfolding head_text
returns c = search (rules, stored-then) depth 12
