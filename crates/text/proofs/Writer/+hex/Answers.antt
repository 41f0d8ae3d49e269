use Rattle.text.proofs.Numbers.{hex-none, hex-more}
use Rattle.text.proofs.Stores.{stored-none, stored-then}
use Rattle.text.proofs.Writer.+hex.Goals as goal

pub returns-then-count-ne0 : goal.returns-then-count-ne0
returns-then-count-ne0 t c = rw (hex-more c.args.count c.args.b c.if-count-ne0.true, ← c.hex_digit.ensures) (stored-then c.hex.ensures c.byte.ensures)

pub returns-else-count-ne0 : goal.returns-else-count-ne0
returns-else-count-ne0 t c = rw (hex-none c.args.count c.args.b c.if-count-ne0.false) stored-none
