use Rattle.text.specs.Text.{right_aligned}
use Rattle.text.proofs.Stores.{stored-then}
use Rattle.text.proofs.Writer.right.Goals as goal

pub returns : goal.returns
unfolding right_aligned
returns c = stored-then (rw (c.saturating_sub.ensures, c.difference_length.ensures) at c.spaces.ensures) c.difference.ensures
