use Rattle.text.proofs.Stores.{stored-start, stored_more}
use borrow.Author.Rules.{rules}
use Rattle.map_lines.proofs.put_lines.Goals as goal

pub loop-i-init : goal.loop-i-init
loop-i-init c =
    search (rules, stored-start)

pub loop-i-preserved : goal.loop-i-preserved
loop-i-preserved c =
    search (rules, stored_more)
