use Rattle.std.proofs.lemmas.List.Sums.{fold_more}
use Rattle.std.proofs.Common.{length, sym, ◌∙◌}
use Rattle.lines.specs.Lines.{rule_in}
use Rattle.lines.proofs.Marking.{no-members, short-line, long-line}
use Rattle.std.proofs.lemmas.List.{take_all}
use borrow.Author.Tests.{eqb-true}
use native.Mathlib.Omega.{arith}
use Rattle.lines.proofs.Rule.mark_flagged.Goals as goal
use Rattle.lines.proofs.Rule.mark_flagged.Goals.{then-is_empty-via-then-is_empty, then-is_empty-via-else-is_empty+then-members-from, then-is_far, else-is_far}

pub returns-then-is_empty : goal.returns-then-is_empty
returns-then-is_empty c = elim c.then-is_empty.branch [
  | then-is_empty-via-then-is_empty w ↦ no-members _ _ _ _ (eqb-true (length c.args.members.now) 0 (sym c.is_empty.ensures ∙ w.if-is_empty.true))
  | then-is_empty-via-else-is_empty+then-members-from w ↦ short-line (rule_in c.args.self.now) c.args.self.now.minimum c.args.out.now c.args.members.now (omega (arith, w.from.ensures))
]

pub loop-j-preserved : goal.loop-j-preserved
loop-j-preserved c =
    elim c.if-is_far.branch [
      | then-is_far w ↦ rw (w.out-is, fold_more _ _ c.args.members.now c.loop-j.j-index 0 (omega arith), ← c.loop-j.invariant, ← c.from-j.ensures, ← c.is_far.ensures, w.if-is_far.true)
      | else-is_far w ↦ rw (w.out-is, fold_more _ _ c.args.members.now c.loop-j.j-index 0 (omega arith), ← c.loop-j.invariant, ← c.from-j.ensures, ← c.is_far.ensures, w.if-is_far.false)
    ]

pub returns : goal.returns
returns c =
    (rw (take_all c.loop-j.j-index c.args.members.now (omega arith)) at c.loop-j.invariant) ∙ long-line _ _ _ _ _ (omega (arith, c.from.ensures)) c.fit-line.ensures
