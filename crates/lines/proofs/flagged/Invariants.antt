use Rattle.std.proofs.Common.{ℕ}
use lib.ListN.{replicate}
use Rattle.view.specs.View.{max_points}
use Rattle.lines.specs.Lines.{rule_in, Numbered}
use Rattle.lines.proofs.Marking.{Lines}
use Rattle.lines.proofs.flagged.Given as goal

abbrev pub invariant-loop-number : goal.invariant-loop-number
invariant-loop-number g l =
    (h : ℕ → ℕ) → Numbered l.lattice.count (goal.F-post g l.fn.line) h → Lines (rule_in l.rule) l.rule.minimum h l.lattice.count l.number (replicate max_points 0) l.out
