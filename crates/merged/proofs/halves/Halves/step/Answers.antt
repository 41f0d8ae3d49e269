use Rattle.std.proofs.Common.{Less, Equal, Greater, sym, ◌∙◌, arith}
use Rattle.std.specs.Cmp.{ranked}
use Rattle.merged.proofs.Walk.{takes-at-end, takes-right-alone, takes-left, takes-right, takes-both}
use Rattle.merged.proofs.halves.Halves.step.Goals as goal

pub returns-then-j-self-clause-some : goal.returns-then-j-self-clause-some
returns-then-j-self-clause-some c = (takes-at-end _ _ _ c.requires.0 c.if-j-self.true c.then_some.ensures).0

pub returns-then-j-self-clause-none : goal.returns-then-j-self-clause-none
returns-then-j-self-clause-none c = (takes-at-end _ _ _ c.requires.0 c.if-j-self.true c.then_some.ensures).1

pub returns-then-i-n-clause-some : goal.returns-then-i-n-clause-some
returns-then-i-n-clause-some c = takes-right-alone _ _ _ c.if-i-n.true (omega (arith, c.requires.1, c.if-j-self.false))

pub returns-in-Less-clause-some : goal.returns-in-Less-clause-some
returns-in-Less-clause-some c =
    takes-left _ _ _ (omega (arith, c.requires.0, c.if-i-n.false)) (omega (arith, c.requires.1, c.if-j-self.false))
    (omega (arith, c.key.ensures, c.key-2.ensures, ranked c.key.result c.key-2.result Less (sym c.in-Less.is ∙ c.cmp.ensures)))

pub returns-in-Greater-clause-some : goal.returns-in-Greater-clause-some
returns-in-Greater-clause-some c =
    takes-right _ _ _ (omega (arith, c.requires.0, c.if-i-n.false)) (omega (arith, c.requires.1, c.if-j-self.false))
    (omega (arith, c.key.ensures, c.key-2.ensures, ranked c.key.result c.key-2.result Greater (sym c.in-Greater.is ∙ c.cmp.ensures)))

pub returns-in-Equal-clause-some : goal.returns-in-Equal-clause-some
returns-in-Equal-clause-some c =
    takes-both _ _ _ (omega (arith, c.requires.0, c.if-i-n.false)) (omega (arith, c.requires.1, c.if-j-self.false))
    (omega (arith, c.key.ensures, c.key-2.ensures, ranked c.key.result c.key-2.result Equal (sym c.in-Equal.is ∙ c.cmp.ensures)))
