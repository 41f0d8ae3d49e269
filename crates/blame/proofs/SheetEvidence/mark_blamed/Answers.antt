use Rattle.std.proofs.Common.{◌∙◌, sym, arith}
use Rattle.std.proofs.lemmas.Option.{IfSome_then}
use Rattle.blame.proofs.Blamed.{blames-one, not-visited}
use Rattle.blame.proofs.SheetEvidence.mark_blamed.Goals as goal

pub set-requires : goal.set-requires
set-requires c = IfSome_then c.blame.result c.blame.ensures.inside (λ m h. omega (arith, h, c.args.self.now.sheet.lattice.few))

pub returns-then-is_visited : goal.returns-then-is_visited
returns-then-is_visited c = blames-one _ _ _ (sym c.is_visited.ensures ∙ c.if-is_visited.true) c.blame.ensures.value c.set.ensures

pub returns-else-is_visited : goal.returns-else-is_visited
returns-else-is_visited c = not-visited _ _ _ _ (sym c.is_visited.ensures ∙ c.if-is_visited.false)
