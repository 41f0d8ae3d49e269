use Rattle.view.specs.View.{value_at}
use Rattle.lines.specs.Fit.{moment_of}
use lib.ListN.{take}
use mathlib.Core.Path.{◌≡◌}
use Rattle.lines.proofs.Rule.line_around.Given as goal

abbrev pub invariant-loop-j : goal.invariant-loop-j
invariant-loop-j l =
    let met = take l.j-index l.members in
    (l.sxx ≡ moment_of (value_at l.self.seen.x.now) l.v.x (value_at l.self.seen.x.now) l.v.x met) × (l.sxy ≡ moment_of (value_at l.self.seen.x.now) l.v.x (value_at l.self.seen.y.now) l.v.y met) × (l.syy ≡ moment_of (value_at l.self.seen.y.now) l.v.y (value_at l.self.seen.y.now) l.v.y met)
