use Rattle.median.specs.Packed.{Packed}
use Rattle.median.proofs.pack.Given as goal

abbrev pub invariant-loop-x : goal.invariant-loop-x
invariant-loop-x l = Packed l.v.values.now l.x-index l.c l.a
