use Rattle.std.proofs.Common.{◌-◌}
use Rattle.view.specs.View.{max_points}
use Rattle.patches.specs.Steps.{AdvancedOf}
use Rattle.patches.proofs.search.Search.fill.Given as goal

abbrev pub invariant-loop-head : goal.invariant-loop-head
invariant-loop-head l = AdvancedOf l.linked l.s l.start l.initial.self l.s l.head l.self

abbrev pub decreases-loop-head : goal.decreases-loop-head
decreases-loop-head l = max_points - l.head
