use mathlib.Core.Path.{◌≡◌}
use Prim.Native.Nat.{◌+◌, ◌-◌}
use native.Mathlib.Omega.{arith}
use Rattle.std.proofs.Common.{rules}
use Rattle.std.proofs.lemmas.List.{get_or_default}
use Rattle.sort.specs.Packed.{entries_of}
use Rattle.sort.proofs.Entries.{entry_at}
use Rattle.grid.specs.Tables.{entry_in}
use Rattle.grid.proofs.Indices.{walked_start, walked_more, walked-done, rank_below}
use Rattle.grid.proofs.KeyedPoints.fill_indices.Goals as goal

pub loop-i-init : goal.loop-i-init
loop-i-init c =
    let s = c.args.self.now in
    let key = entry_in s.points.idx.now in
    let e : c.in_order-order.result ≡ entries_of s.points.count key = c.in_order-order.ensures key (λ i r h p. search rules) in
    walked_start _ _ s.keyed.few _ (λ r h. rw e (entry_at s.points.count key r h)) _ c.told-ranks

pub bounds-ranks-k : goal.bounds-ranks-k
bounds-ranks-k c =
    let l = c.loop-i in
    let s = c.args.self.now in
    omega (arith, c.place-k.ensures, get_or_default c.in_order-order.result (l.i - 1) c.index-order-i.result 0 (omega arith), rank_below (entry_in s.points.idx.now) s.points.count s.keyed.few c.in_order-order.result l.invariant.ordered (l.i - 1) (omega (arith, l.invariant.low)))

pub loop-i-preserved : goal.loop-i-preserved
loop-i-preserved c =
    let l = c.loop-i in
    let e : l.i - 1 + 1 ≡ l.i = omega arith in
    rw (c.place-k.ensures, get_or_default c.in_order-order.result (l.i - 1) c.index-order-i.result 0 (omega arith))
    (walked_more _ _ c.args.self.now.keyed.few _ l.invariant.ordered _ c.told-ranks (l.i - 1) _ (omega (arith, l.invariant.low)) (rw (← e) at l.invariant) c.last_rank-last.ensures)

pub returns : goal.returns
returns c =
    let l = c.loop-i in
    let e : l.i ≡ 0 = omega arith in
    walked-done _ _ c.args.self.now.keyed.few _ l.invariant.ordered _ c.told-ranks (rw e at l.invariant)
