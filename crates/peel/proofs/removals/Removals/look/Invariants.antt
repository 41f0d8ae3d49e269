use Rattle.peel.specs.Steps.{SearchedBy, beside_queued_in}
use Rattle.peel.proofs.removals.Removals.look.Given as goal

abbrev pub invariant-loop-p : goal.invariant-loop-p
invariant-loop-p l = SearchedBy l.round (beside_queued_in l.round l.initial.self.queue l.from l.p) l.initial.self l.self
