use Rattle.std.proofs.Common.{le-leb}
use Rattle.folds.proofs.Same.{told}
use Rattle.recorded.proofs.is_text.Goals as goal

pub returns-then-n-out : goal.returns-then-n-out
returns-then-n-out c =
    rw (le-leb _ _ c.if-recorded-size.false, c.in-Ok.is, le-leb _ _ c.if-n-out.true) (told _ _ c.same.ensures.0 c.same.ensures.1)
