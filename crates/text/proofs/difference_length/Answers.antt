use Prim.Native.Nat.{◌-◌}
use native.Mathlib.Omega.{arith}
use Rattle.text.proofs.Numbers.{whole_below, whole_from, decimal-length}
use Rattle.text.proofs.difference_length.Goals as goal

pub returns-then-b-a : goal.returns-then-b-a
returns-then-b-a c =
    let a = c.args in
    rw (whole_from a.a a.b c.if-b-a.true) c.decimal_length.ensures

pub overflow_add-result : goal.overflow_add-result
overflow_add-result c =
    let a = c.args in
    omega (arith, decimal-length 19 (a.b - a.a) (omega arith), c.decimal_length-2.ensures)

pub returns : goal.returns
returns c =
    let a = c.args in
    rw (whole_below a.a a.b c.if-b-a.false) (omega (arith, c.decimal_length-2.ensures))
