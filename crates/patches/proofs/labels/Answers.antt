use Rattle.std.proofs.Common.{arith}
use Rattle.offsets.specs.Offsets.{places}
use Rattle.view.specs.Seen.{lattice_in}
use Rattle.patches.proofs.Searching.{search-none}
use Rattle.patches.proofs.Labelling.{search-labels}
use Rattle.patches.proofs.labels.Goals as goal

pub loop-s-init : goal.loop-s-init
loop-s-init c =
    let e = c.new-search.ensures in
    let w = c.args.linked.now in
    search-none (lattice_in w.lattice) c.args.dropped.now w.lattice.few e.marks e.labels e.none (places w.sides.now)

pub loop-s-preserved : goal.loop-s-preserved
loop-s-preserved c = c.fill.ensures.search c.args.dropped.now c.loop-s.invariant

pub returns : goal.returns
returns c xs ys =
    let l = c.args.linked.now in
    let w = lattice_in l.lattice in
    search-labels w.count w.near (places l.sides.now) c.args.dropped.now _ _ _ _ _ (omega arith) l.lattice.few c.loop-s.search.list c.loop-s.invariant
