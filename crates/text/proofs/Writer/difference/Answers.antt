use Rattle.text.proofs.Numbers.{whole_below, whole_from}
use Rattle.text.proofs.Stores.{stored-then}
use Rattle.text.proofs.Writer.difference.Goals as goal

pub returns-then-a-b : goal.returns-then-a-b
returns-then-a-b c = rw (whole_below c.args.a c.args.b c.if-a-b.true) (stored-then c.byte.ensures c.decimal.ensures)

pub returns-else-a-b : goal.returns-else-a-b
returns-else-a-b c = rw (whole_from c.args.a c.args.b c.if-a-b.false) c.decimal-else-a-b.ensures
