use Rattle.std.proofs.Common.{◌≡◌, sym, ap, ◌∙◌, List, ℕ, arith, true, false, lt-ltb, le-ltb}
use Rattle.components.specs.Components.{largest_at, winner_of}
use Rattle.components.proofs.Tallies.{largest-none, largest-then, largest-le}
use Rattle.components.proofs.labelled.Labelled.winner.Goals as goal
use Rattle.components.proofs.labelled.Labelled.winner.Goals.{then-size-r, else-size-r}

pub loop-s-init : goal.loop-s-init
loop-s-init c = sym (largest-none _)

pub offset_bounds-size-r : goal.offset_bounds-size-r
offset_bounds-size-r c = omega (arith, c.loop-s.invariant, largest-le c.sizes-size.result c.loop-s.s, c.args.self.now.few)

pub bounds-size-r : goal.bounds-size-r
bounds-size-r c = omega (arith, c.loop-s.invariant, largest-le c.sizes-size.result c.loop-s.s, c.args.self.now.few)

pub loop-s-preserved : goal.loop-s-preserved
loop-s-preserved c =
    elim c.if-size-r.branch [
      | then-size-r w ↦ largest-then c.sizes-size.result c.loop-s.s {b = true} w.r-is (sym (lt-ltb _ _ w.if-size-r.true)) c.loop-s.invariant
      | else-size-r w ↦ largest-then c.sizes-size.result c.loop-s.s {b = false} w.r-is (sym (le-ltb _ _ w.if-size-r.false)) c.loop-s.invariant
    ]

pub returns : goal.returns
unfolding winner_of
returns c =
    let e : c.loop-s.s ≡ c.args.self.now.count = omega arith in
    rw e at c.loop-s.invariant ∙ ap (λ (l : List ℕ). largest_at l c.args.self.now.count) c.sizes-size.ensures
