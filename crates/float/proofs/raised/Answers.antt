use native.Mathlib.Omega.{arith}
use Rattle.float.proofs.Near.{near-only}
use Rattle.float.proofs.raised.Goals as goal

pub returns : goal.returns
returns c = near-only _ _ c.requires.0 (omega arith) (c.loop-s.invariant.0, omega arith)
