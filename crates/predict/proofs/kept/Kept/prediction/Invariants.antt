use Rattle.std.proofs.Common.{◌≡◌}
use Rattle.predict.specs.Sums.{sums_to}
use Rattle.predict.specs.Steps.{view_of}
use Rattle.predict.proofs.kept.Kept.prediction.Given as goal

abbrev pub invariant-loop-o : goal.invariant-loop-o
invariant-loop-o l = l.sums ≡ sums_to (view_of l.self) l.self.marks.now l.k l.self.sides.now l.o-index
