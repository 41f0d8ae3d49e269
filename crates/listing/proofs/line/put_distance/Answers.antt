use Rattle.std.proofs.Common.{rules}
use Rattle.listing.specs.Listing.{distance_text}
use Rattle.text.proofs.Stores.{stored-then}
use Rattle.listing.proofs.line.put_distance.Goals as goal

pub returns : goal.returns
unfolding distance_text
returns c = search (rules, stored-then) depth 12
