use Rattle.std.proofs.Common.{sym, ◌∙◌}
use Rattle.worst_sheet.proofs.Asked.{decimal-utf8, decimal-parsed}
use Rattle.worst_sheet.proofs.number_of.Goals as goal

pub returns-in_default : goal.returns-in_default
returns-in_default c n l e = absurd (c.in_default.ensures.cases.0 (rw e at (decimal-utf8 n)))

pub returns : goal.returns
returns c n l e = rw (c.ok.ensures.value, decimal-parsed n _ (rw (c.in-Ok.ensures.cases.0 ∙ sym e) at c.parse.ensures.value.0) l)
