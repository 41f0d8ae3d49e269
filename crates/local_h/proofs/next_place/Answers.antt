use Rattle.std.proofs.Common.{refl, sym, ◌∙◌}
use Rattle.view.specs.Seen.{lattice_in}
use Rattle.local_h.proofs.Finding.{passed-none, passed-some, stopped, ended}
use Rattle.local_h.proofs.next_place.Goals as goal
use Rattle.local_h.proofs.next_place.Goals.{in-Some+else-serves, in_default}

pub loop-p-init : goal.loop-p-init
loop-p-init g c h t = refl

pub loop-p-preserved : goal.loop-p-preserved
loop-p-preserved g c h t =
    let w = lattice_in c.args.lattice.now in
    let left = c.loop-p.invariant h t in
    elim c.match-other.branch [
      | in-Some+else-serves b ↦ passed-some w c.args.k h c.args.start c.loop-p.p left c.loop-p-test.true b.in-Some.ensures (sym (t b.in-Some.f.offset b.serves.result b.serves.ensures) ∙ b.if-serves.false)
      | in_default b ↦ passed-none w c.args.k h c.args.start c.loop-p.p left c.loop-p-test.true b.in_default.ensures
    ]

pub returns-then-serves-clause-value : goal.returns-then-serves-clause-value
returns-then-serves-clause-value g c h t =
    stopped (lattice_in c.args.lattice.now) c.args.k h c.args.start c.loop-p.p (c.loop-p.invariant h t) c.loop-p-test.true c.in-Some.ensures (sym (t c.in-Some.f.offset c.serves.result c.serves.ensures) ∙ c.if-serves.true)

pub returns-clause-value : goal.returns-clause-value
returns-clause-value g c h t =
    ended (lattice_in c.args.lattice.now) c.args.k h c.args.start c.loop-p.p (c.loop-p.invariant h t) c.loop-p-test.false
