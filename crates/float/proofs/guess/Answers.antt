use Prim.Native.Nat.{◌+◌, ◌/◌, ◌%◌, ◌*◌}
use native.Mathlib.Omega.{arith}
use Rattle.float.proofs.Squares.{product_lt}
use Rattle.float.proofs.guess.Goals as goal

pub overflow_mul-g-2 : goal.overflow_mul-g-2
overflow_mul-g-2 c =
    let step = c.saturating_sub-step.result % 65536 in
    let p = product_lt {a = c.args.n / 65536 % 16777216} {b = step} 24 16 (omega arith) (omega arith) in
    let g = c.root_at-low.result + c.args.n / 65536 % 16777216 * step / 16777216 in
    omega (arith, product_lt {a = g} {b = g} 26 26 (omega (arith, p)) (omega (arith, p)))
