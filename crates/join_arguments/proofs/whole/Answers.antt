use Rattle.std.proofs.Common.{sym, ◌∙◌}
use Rattle.std.specs.Int.{w32}
use Rattle.std.proofs.lemmas.Int.{to_z-of_z}
use Rattle.join_arguments.proofs.Printed.{some_same, asked-every, asked-alone}
use Rattle.join_arguments.proofs.whole.Goals as goal

pub returns-clause-every : goal.returns-clause-every
returns-clause-every c z f e =
    let same = some_same (sym c.in_ok-z.was ∙ c.number_of.ensures z f e) in
    rw c.then_some.ensures (asked-every _ _ _ c.is_whole.ensures z (rw same (to_z-of_z w32 z f)) e)

pub returns-clause-alone : goal.returns-clause-alone
returns-clause-alone c = rw c.then_some.ensures (asked-alone _ _ _ c.is_whole.ensures)
