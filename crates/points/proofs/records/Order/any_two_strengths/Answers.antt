use Rattle.std.proofs.Common.{rules}
use Rattle.cells.specs.Points.{Point}
use Rattle.points.specs.Refusals.{same_strength}
use Rattle.points.proofs.Clashes.{strength_alike}
use Rattle.points.proofs.records.Order.any_two_strengths.Goals as goal

pub returns : goal.returns
returns c = c.any_apart.ensures (λ (p : Point). p.index) same_strength strength_alike c.requires (λ p q r a b h. search rules)
