use borrow.Author.Rules.{sfits_of}
use mir.Syntax.{w32}
use Rattle.std.proofs.lemmas.Int.{to_z-of_z}
use mathlib.Core.Path.{ap, ◌∙◌}
use Rattle.higlaupth.specs.Number.{number_of}
use Rattle.higlaupth.proofs.Number.{countable-join}
use Rattle.higlaupth.proofs.higlaupth_join.Goals as goal

pub number_of-requires : goal.number_of-requires
number_of-requires c =
    rw c.keep_joined.ensures.answer (countable-join c.args.left.now c.args.right.now _ _ (λ k. (c.type_inv.left k).fits) (λ k. (c.type_inv.right k).fits))

pub returns-clause-number : goal.returns-clause-number
returns-clause-number c =
    c.number_of.ensures ∙ ap number_of (rw (to_z-of_z w32 c.args.du (sfits_of c.ranges.du.sfits), to_z-of_z w32 c.args.dv (sfits_of c.ranges.dv.sfits)) at c.keep_joined.ensures.answer)

pub returns-clause-rows : goal.returns-clause-rows
returns-clause-rows c = rw (to_z-of_z w32 c.args.du (sfits_of c.ranges.du.sfits), to_z-of_z w32 c.args.dv (sfits_of c.ranges.dv.sfits)) at c.keep_joined.ensures.rows
