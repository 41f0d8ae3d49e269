use Rattle.std.proofs.Common.{rules}
use Rattle.text.specs.Text.{refusal_of}
use Rattle.text.proofs.Stores.{stored-then, shows}
use Rattle.text.proofs.write_refusal.Goals as goal

pub returns : goal.returns
unfolding refusal_of
returns c = shows c.new-w.ensures (stored-then (stored-then c.text.ensures (rw c.from.ensures at c.decimal.ensures)) c.byte.ensures) c.answer.ensures (search rules)
