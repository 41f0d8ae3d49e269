use Rattle.std.proofs.Common.{take}
use Rattle.text.specs.Stored.{Stored}
use Rattle.text.proofs.Writer.text.Given as goal

abbrev pub invariant-loop-b : goal.invariant-loop-b
invariant-loop-b l = Stored l.initial.self (take l.b-index l.s) l.self
