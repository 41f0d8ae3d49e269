use Rattle.std.proofs.Common.{sym, ◌∙◌}
use Rattle.joined.proofs.Reading.{too-many-found}
use Rattle.joined.proofs.pair.Pair.join.Goals as goal

pub returns-in-None : goal.returns-in-None
returns-in-None c h = too-many-found c.args.self.now h c.args.room _ c.halves-halves.ensures (sym c.in-None.is ∙ c.merge.ensures)
