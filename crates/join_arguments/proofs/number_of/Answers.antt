use Rattle.std.proofs.Common.{sym, ◌∙◌}
use Rattle.join_arguments.proofs.Printed.{whole-utf8, whole-parsed}
use Rattle.join_arguments.proofs.number_of.Goals as goal

pub returns-in_default : goal.returns-in_default
returns-in_default c z f e = absurd (c.in_default.ensures.cases.0 (rw e at (whole-utf8 z f)))

pub returns : goal.returns
returns c z f e = rw (c.ok.ensures.value, whole-parsed z _ _ f (e ∙ sym (c.in-Ok.ensures.cases.0)) (c.parse.ensures.value.0))
