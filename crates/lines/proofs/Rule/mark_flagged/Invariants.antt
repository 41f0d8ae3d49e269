use Rattle.std.specs.List.{fold}
use Rattle.lines.specs.Flags.{is_far}
use Rattle.lines.specs.Lines.{rule_in, mark_if}
use lib.ListN.{take}
use mathlib.Core.Path.{◌≡◌}
use Rattle.lines.proofs.Rule.mark_flagged.Given as goal

abbrev pub invariant-loop-j : goal.invariant-loop-j
invariant-loop-j l = l.out ≡ fold (mark_if (is_far (rule_in l.self) l.line)) l.initial.out (take l.j-index l.members)
