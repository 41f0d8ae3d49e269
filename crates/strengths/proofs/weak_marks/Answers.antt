use borrow.Author.Rules.{rules}
use mathlib.Core.Path.{◌∙◌}
use lib.ListN.{get_or}
use lib.Ieee.{nan, lt}
use Rattle.folds.specs.Arith.{◌⊗◌}
use Rattle.folds.specs.Marked.{bit}
use Rattle.strengths.proofs.Laws.{weak-by}
use Rattle.strengths.proofs.weak_marks.Goals as goal

pub returns : goal.returns
returns c =
    let g = c.args in
    c.filled.ensures (λ k. bit (lt (get_or g.strength.now.values.now k nan) (g.fraction ⊗ c.middle_of_all.result))) (λ k r h p. search rules)
    ∙ weak-by g.strength.now.count g.strength.now.values.now g.fraction _ c.middle_of_all.ensures
