use Rattle.std.proofs.Common.{rules}
use Rattle.listing.specs.Listing.{line_text}
use Rattle.text.proofs.Stores.{stored-then}
use Rattle.listing.proofs.line.put_line.Goals as goal

pub returns : goal.returns
unfolding line_text
returns c = search (rules, stored-then) depth 12
