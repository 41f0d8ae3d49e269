use Rattle.std.proofs.Common.{ℕ, ◌<◌}
use Rattle.peel.specs.Steps.{SearchedBy}
use Rattle.peel.proofs.removals.Removals.scan.Given as goal

abbrev pub invariant-loop-k : goal.invariant-loop-k
invariant-loop-k l = SearchedBy l.round (λ (j : ℕ). j < l.k) l.initial.self l.self
