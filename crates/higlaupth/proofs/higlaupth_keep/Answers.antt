use mathlib.Core.Path.{ap, ◌∙◌}
use Rattle.higlaupth.specs.Number.{number_of}
use Rattle.higlaupth.proofs.Number.{countable}
use Rattle.higlaupth.proofs.higlaupth_keep.Goals as goal

pub number_of-requires : goal.number_of-requires
number_of-requires c = rw c.keep.ensures.answer (countable _ _ (λ k. (c.type_inv.file k).fits))

pub returns-clause-number : goal.returns-clause-number
returns-clause-number c = c.number_of.ensures ∙ ap number_of c.keep.ensures.answer
