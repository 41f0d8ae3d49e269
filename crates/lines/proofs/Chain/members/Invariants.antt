use Rattle.std.proofs.Common.{ℕ, ◌-◌, ◌≤◌}
use Rattle.view.specs.View.{max_points}
use Rattle.lines.specs.Flags.{is_on}
use Rattle.lines.specs.Lines.{Chained}
use Rattle.lines.proofs.Walking.{to, Walked}
use Rattle.lines.proofs.Chain.members.Given as goal

abbrev pub invariant-loop-next : goal.invariant-loop-next
invariant-loop-next l = (l.c ≤ max_points) × ((n : ℕ) (line : ℕ → ℕ) → Chained n line 0 l.self.heads l.self.nexts → Walked n (is_on line l.number) l.next l.room l.c)

abbrev pub decreases-loop-next : goal.decreases-loop-next
decreases-loop-next l = max_points - to max_points l.next
