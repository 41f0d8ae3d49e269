use Rattle.std.proofs.Common.{refl, arith}
use Rattle.lines.proofs.Walking.{walk-start, walk-more, walk-up, walk-members}
use Rattle.lines.proofs.Chain.members.Goals as goal

pub loop-next-init : goal.loop-next-init
loop-next-init c = (omega arith, λ n line t. walk-start t c.args.number _ c.requires.small (omega arith))

pub offset_bounds-room-c : goal.offset_bounds-room-c
offset_bounds-room-c c =
    let t = c.requires.chained in
    let w = rw c.in-Some.is at (c.loop-next.invariant.1 t.0 t.1 t.2) in
    omega (arith, w.gathered.few, (w.rank c.in-Some.k refl).0, t.2.few)

pub bounds-room-c : goal.bounds-room-c
bounds-room-c c =
    let t = c.requires.chained in
    let w = rw c.in-Some.is at (c.loop-next.invariant.1 t.0 t.1 t.2) in
    omega (arith, w.gathered.few, (w.rank c.in-Some.k refl).0, t.2.few)

pub bounds-self-from : goal.bounds-self-from
bounds-self-from c =
    let t = c.requires.chained in
    omega (arith, c.from.ensures, ((c.loop-next.invariant.1 t.0 t.1 t.2).rank c.in-Some.k c.in-Some.is).0, t.2.few)

pub loop-next-smaller : goal.loop-next-smaller
loop-next-smaller c =
    let t = c.requires.chained in
    rw (c.in-Some.is, c.from.ensures) (walk-up t.2 c.in-Some.k ((c.loop-next.invariant.1 t.0 t.1 t.2).rank c.in-Some.k c.in-Some.is).0)

pub loop-next-preserved : goal.loop-next-preserved
loop-next-preserved c =
    let t = c.requires.chained in
    let w = rw c.in-Some.is at (c.loop-next.invariant.1 t.0 t.1 t.2) in (
      omega (arith, w.gathered.few, (w.rank c.in-Some.k refl).0, t.2.few),
      λ n line t. rw c.from.ensures (walk-more t c.args.number c.in-Some.k (rw c.in-Some.is at (c.loop-next.invariant.1 n line t))),
    )

pub returns-clause-ranks : goal.returns-clause-ranks
returns-clause-ranks c =
    let t = c.requires.chained in
    walk-members t.2.few (rw c.in_default.is at (c.loop-next.invariant.1 t.0 t.1 t.2))

pub returns-clause-line : goal.returns-clause-line
returns-clause-line c n line t = let w = rw c.in_default.is at (c.loop-next.invariant.1 n line t) in w.gathered.held
