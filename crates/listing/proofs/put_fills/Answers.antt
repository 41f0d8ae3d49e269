use Rattle.std.proofs.Common.{rules}
use Rattle.text.proofs.Stores.{stored-start, stored_more}
use Rattle.listing.proofs.put_fills.Goals as goal

pub loop-k-init : goal.loop-k-init
loop-k-init c = search (rules, stored-start)

pub loop-k-preserved : goal.loop-k-preserved
loop-k-preserved c = search (rules, stored_more)
