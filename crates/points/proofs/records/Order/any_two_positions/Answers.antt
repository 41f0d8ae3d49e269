use Rattle.std.proofs.Common.{rules}
use Rattle.cells.specs.Points.{Point}
use Rattle.points.specs.Refusals.{same_position}
use Rattle.points.proofs.Clashes.{position_alike}
use Rattle.points.proofs.records.Order.any_two_positions.Goals as goal

pub returns : goal.returns
returns c = c.any_apart.ensures (λ (p : Point). p.index) same_position position_alike c.requires (λ p q r a b h. search rules)
