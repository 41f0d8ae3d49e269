use Rattle.std.proofs.Common.{arith, sym, ◌∙◌, get_or}
use Rattle.join_arguments.proofs.Spelling.{spelled-digit, spelled-none, spelled-end, pattern-eight, pattern-other, fits, grows, digit-small}
use Rattle.join_arguments.proofs.pattern.Goals as goal

pub returns-then-argument-ne8 : goal.returns-then-argument-ne8
returns-then-argument-ne8 c = sym (pattern-other _ c.if-argument-ne8.true)

pub overflow_mul-bits : goal.overflow_mul-bits
overflow_mul-bits c = omega (arith, fits c.loop-c.bits c.loop-c.c-index c.loop-c.invariant.0 (omega arith))

pub overflow_add-bits : goal.overflow_add-bits
overflow_add-bits c =
    let l = c.loop-c in
    omega (arith, c.from.ensures, digit-small (get_or c.args.argument.now l.c-index 0) (sym c.digit.ensures ∙ c.in_ok-digit.was), fits l.bits l.c-index l.invariant.0 (omega arith))

pub returns-in_err-digit : goal.returns-in_err-digit
returns-in_err-digit c =
    let a = c.args.argument.now in
    let l = c.loop-c in
    rw c.from_residual.ensures (sym (pattern-eight a c.if-argument-ne8.false ∙ sym l.invariant.1 ∙ spelled-none a l.bits l.c-index c.loop-c-test.true (sym c.digit.ensures ∙ c.in_err-digit.was)))

pub loop-c-preserved : goal.loop-c-preserved
loop-c-preserved c =
    let a = c.args.argument.now in
    let l = c.loop-c in
    let d = sym c.digit.ensures ∙ c.in_ok-digit.was in
    rw c.from.ensures (grows l.bits l.c-index _ l.invariant.0 (digit-small (get_or a l.c-index 0) d), sym (spelled-digit a l.bits l.c-index c.loop-c-test.true d) ∙ l.invariant.1)

pub returns : goal.returns
returns c =
    let a = c.args.argument.now in
    let l = c.loop-c in
    sym (pattern-eight a c.if-argument-ne8.false ∙ sym l.invariant.1 ∙ spelled-end a l.bits l.c-index (omega arith))
