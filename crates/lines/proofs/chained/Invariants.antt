use Rattle.std.proofs.Common.{ℕ}
use Rattle.lines.specs.Lines.{Numbered, Chained}
use Rattle.lines.proofs.chained.Given as goal

abbrev pub invariant-loop-i : goal.invariant-loop-i
invariant-loop-i g l = (h : ℕ → ℕ) → Numbered l.lattice.count (goal.F-post g l.line) h → Chained l.lattice.count h l.i l.heads l.nexts
