use Rattle.std.proofs.Common.{◌<◌, ◌∙◌, sym, ap, refl, ℕ, Some, arith, eqb-true}
use Rattle.peel.specs.Work.{index_at, last_below, with_index}
use Rattle.peel.proofs.Chaining.{past, past-le, last-is}
use Rattle.peel.proofs.Searching.{put-new, put-more, put-end}
use Rattle.peel.proofs.removals.Removals.consider.Goals as goal

pub put-requires : goal.put-requires
put-requires c =
    let v = c.args.round.now.links.now.sheet in
    let i = c.loop-next.invariant in
    let l = last-is _ i.0 c.in-Some.x (sym i.1 ∙ c.in-Some.is) in
    (omega (arith, l.below, i.2.within, v.lattice.few), put-new i.2 l)

pub before-next-requires : goal.before-next-requires
before-next-requires c =
    let i = c.loop-next.invariant in
    let l = last-is _ i.0 c.in-Some.x (sym i.1 ∙ c.in-Some.is) in
    omega (arith, l.below, i.2.within)

pub loop-next-smaller : goal.loop-next-smaller
loop-next-smaller c =
    let less : past c.before-next.result < past (Some c.in-Some.x) = omega (arith, ap past c.before-next.ensures, past-le (with_index c.args.round.now.links.now.sheet.lattice.ranks.now (index_at c.args.round.now.links.now.sheet.lattice.ranks.now c.in-Some.x)) c.in-Some.x) in
    rw c.in-Some.is less

pub loop-next-preserved : goal.loop-next-preserved
loop-next-preserved c =
    let v = c.args.round.now.links.now.sheet in
    let i = c.loop-next.invariant in
    let l = last-is _ i.0 c.in-Some.x (sym i.1 ∙ c.in-Some.is) in
    let e = c.put.ensures in (
      c.in-Some.x,
      c.before-next.ensures ∙ ap (λ (b : ℕ). last_below (with_index v.lattice.ranks.now b) c.in-Some.x) (eqb-true _ _ l.has),
      rw (e.marks, e.queue, e.one_more) (put-more i.2 l v.lattice.few c.loop-next.self.queued),
    )

pub returns : goal.returns
returns c =
    let i = c.loop-next.invariant in
    put-end c.requires.1 (sym c.is_leaf.ensures ∙ c.if-not-is_leaf.false) c.requires.0 refl (sym i.1 ∙ c.in_default.is) i.2
