use mathlib.Core.Path.{ap, ◌∙◌}
use Rattle.higlaupth.specs.Number.{fill_number_of}
use Rattle.higlaupth.proofs.Number.{few-filled}
use Rattle.higlaupth.proofs.higlaupth_fills.Goals as goal

pub fill_number_of-requires : goal.fill_number_of-requires
fill_number_of-requires c = rw c.fill_sheet.ensures.answer (few-filled _ _ (λ k. (c.type_inv.file k).fits))

pub returns-clause-number : goal.returns-clause-number
returns-clause-number c = c.fill_number_of.ensures ∙ ap fill_number_of c.fill_sheet.ensures.answer
