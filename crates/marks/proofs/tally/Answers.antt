use mathlib.Core.Path.{◌≡◌}
use mathlib.Core.List.{[]}
use native.Mathlib.Omega.{arith}
use Rattle.view.specs.View.{view_at}
use Rattle.marks.proofs.Counts.{counted_start, counted_skip, counted-more, counted-small, counted}
use borrow.Author.Rules.{rules}
use Rattle.marks.proofs.tally.Goals as goal
use Rattle.marks.proofs.tally.Goals.{then-index-k, else-index-k}

pub loop-k-init : goal.loop-k-init
loop-k-init c =
    (search rules, counted_start (view_at c.args.lattice.now.count c.args.lattice.now.ranks.now [] []) c.args.marks.now)

pub overflow_add-counts : goal.overflow_add-counts
overflow_add-counts c =
    let a = c.args in
    omega (arith, counted-small (view_at a.lattice.now.count a.lattice.now.ranks.now [] []) a.marks.now c.loop-k.k c.counted_at.result c.loop-k.counts c.counted_at.ensures.1 c.loop-k.invariant.1)

pub loop-k-preserved : goal.loop-k-preserved
loop-k-preserved c =
    let a = c.args in
    let w = view_at a.lattice.now.count a.lattice.now.ranks.now [] [] in (
      search rules,
      elim c.if-index-k.branch [
        | then-index-k b ↦ rw b.counts-is (counted-more w a.marks.now c.loop-k.k b.counted_at.result c.loop-k.counts (omega arith) b.counted_at.ensures.0 b.counted_at.ensures.1 c.loop-k.invariant.1)
        | else-index-k b ↦ rw b.counts-is (counted_skip w a.marks.now c.loop-k.k c.loop-k.counts (λ e. omega arith) c.loop-k.invariant.1)
      ],
    )

pub returns : goal.returns
returns c xs ys =
    let a = c.args in
    let e : c.loop-k.k ≡ a.lattice.now.count = omega arith in
    counted (view_at a.lattice.now.count a.lattice.now.ranks.now xs ys) a.marks.now c.loop-k.counts (rw e at c.loop-k.invariant.1)
