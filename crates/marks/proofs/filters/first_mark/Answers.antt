use Rattle.std.proofs.Common.{rules, arith, ◌≡◌, sym, ◌∙◌}
use Rattle.folds.proofs.Below.{first_more, first-end}
use Rattle.marks.specs.Filters.{filter_count}
use Rattle.marks.specs.Byte.{first_mark}
use Rattle.marks.proofs.Places.{place-at}
use Rattle.marks.proofs.filters.first_mark.Goals as goal
use Rattle.marks.proofs.filters.first_mark.Invariants.{by}

pub loop-f-init : goal.loop-f-init
unfolding first_mark
loop-f-init c = search rules

pub returns-then-has_marked : goal.returns-then-has_marked
returns-then-has_marked c =
    let l = c.loop-f in
    let at = place-at l.f-index c.loop-f-test.true in
    rw at (sym (first_more (by c.args.marks) l.f-index filter_count c.loop-f-test.true ∙ rw (sym (rw at at c.has_marked.ensures) ∙ c.if-has_marked.true)) ∙ l.invariant)

pub loop-f-preserved : goal.loop-f-preserved
loop-f-preserved c =
    let l = c.loop-f in
    let at = place-at l.f-index c.loop-f-test.true in
    sym (first_more (by c.args.marks) l.f-index filter_count c.loop-f-test.true ∙ rw (sym (rw at at c.has_marked.ensures) ∙ c.if-has_marked.false)) ∙ l.invariant

pub returns : goal.returns
returns c =
    let l = c.loop-f in
    let e : l.f-index ≡ filter_count = omega arith in
    sym (first-end (by c.args.marks) l.f-index filter_count c.loop-f-test.false ∙ e) ∙ l.invariant
