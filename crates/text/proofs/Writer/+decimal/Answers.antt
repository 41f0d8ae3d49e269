use Rattle.text.proofs.Numbers.{decimal-one, decimal-more}
use Rattle.text.proofs.Stores.{stored-then}
use Rattle.text.proofs.Writer.+decimal.Goals as goal

pub returns-then-n-lt10 : goal.returns-then-n-lt10
returns-then-n-lt10 t c = rw (decimal-one c.args.n c.if-n-lt10.true) c.byte.ensures

pub returns-else-n-lt10 : goal.returns-else-n-lt10
returns-else-n-lt10 t c = rw (decimal-more c.args.n c.if-n-lt10.false) (stored-then c.decimal.ensures c.byte-else-n-lt10.ensures)
