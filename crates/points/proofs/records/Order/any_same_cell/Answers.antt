use Rattle.std.proofs.Common.{sym, ◌∙◌, rules}
use Rattle.cells.specs.Points.{key_of}
use Rattle.points.proofs.Clashes.{never, never_alike, same-cells}
use Rattle.points.proofs.records.Order.any_same_cell.Goals as goal

pub returns : goal.returns
returns c = λ b e. c.any_apart.ensures key_of never never_alike c.requires (λ p q r a b h. search rules) ∙ sym (same-cells _ _ b e)
