use Rattle.std.proofs.Common.{le-ltb, lt-ltb}
use Rattle.sheet_fills.proofs.as_rows.Goals as goal

pub returns-then-most-lt-MAX_POINTS : goal.returns-then-most-lt-MAX_POINTS
returns-then-most-lt-MAX_POINTS c = rw (lt-ltb _ _ c.if-most-lt-MAX_POINTS.true)

pub returns : goal.returns
returns c = rw (le-ltb _ _ c.if-most-lt-MAX_POINTS.false)
