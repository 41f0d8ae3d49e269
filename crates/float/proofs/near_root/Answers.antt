use mathlib.Core.Path.{refl}
use native.Mathlib.Omega.{arith}
use Rattle.float.proofs.Near.{rounded, near-only}
use Rattle.float.proofs.near_root.Goals as goal

pub with_square-requires : goal.with_square-requires
with_square-requires c = (omega arith, c.requires.1, near-only _ _ (omega arith) (omega arith) (omega (arith, c.if-q-n.true), c.if-n-q.true), refl)

pub overflow_mul-r : goal.overflow_mul-r
overflow_mul-r c = omega (arith, rounded c.args.n _ (omega arith) (omega arith) c.raised-r.ensures)
