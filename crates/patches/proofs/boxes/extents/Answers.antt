use Rattle.std.proofs.Common.{◌≡◌, ℕ, get_or, arith}
use Rattle.patches.specs.Extents.{nowhere, extent_with}
use Rattle.patches.specs.declared.boxes.Extent.{Extent}
use Rattle.patches.proofs.Gathering.{labels-none, labels-put, labels-skip, labels-column}
use Rattle.patches.proofs.boxes.extents.Goals as goal
use Rattle.patches.proofs.boxes.extents.Goals.{then-v-n, else-v-n}

pub loop-i-init : goal.loop-i-init
loop-i-init c = labels-none nowhere c.args.points.now.label c.args.points.now.sheet.lattice.count _

pub loop-i-preserved : goal.loop-i-preserved
loop-i-preserved c =
    let p = c.args.points.now in
    let n = p.sheet.lattice.count in
    let few = p.sheet.lattice.few in
    let g : ℕ → Extent → Extent = λ k e. extent_with e (get_or p.keys.now k 0) in
    elim c.if-v-n.branch [
      | then-v-n w ↦ rw (w.far-is, w.with.ensures) (labels-put nowhere p.label n g c.loop-i.i c.from-v.result few c.from-v.ensures w.if-v-n.true c.loop-i.invariant)
      | else-v-n w ↦ rw w.far-is (labels-skip nowhere p.label n g c.loop-i.i c.from-v.result c.from-v.ensures w.if-v-n.false c.loop-i.invariant)
    ]

pub returns : goal.returns
returns c =
    let p = c.args.points.now in
    let e : c.loop-i.i ≡ p.sheet.lattice.count = omega arith in
    labels-column nowhere p.label p.sheet.lattice.count _ _ p.sheet.lattice.few (rw e at c.loop-i.invariant)
