use Rattle.std.proofs.Common.{◌∙◌, arith}
use Rattle.offsets.specs.Offsets.{places}
use Rattle.peel.proofs.Searching.{queue-few, queued-more, searched-then}
use Rattle.peel.proofs.removals.Removals.look.Goals as goal

pub offset_bounds-self-p : goal.offset_bounds-self-p
offset_bounds-self-p c = omega (arith, queue-few c.args.self.now.queued)

pub bounds-self-p : goal.bounds-self-p
bounds-self-p c = omega (arith, queue-few c.args.self.now.queued)

pub loop-p-preserved : goal.loop-p-preserved
loop-p-preserved c =
    let v = c.args.round.now.links.now in
    searched-then _ (λ k l. queued-more v.sheet.lattice.ranks.now (places v.sides.now) c.args.self.now.queue c.args.from c.loop-p.p _ (c.from.ensures ∙ c.loop-p.invariant.front c.loop-p.p c.loop-p-test.true) k) c.loop-p.invariant c.around.ensures
