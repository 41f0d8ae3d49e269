use Rattle.local_h.proofs.Finding.{nearest-found}
use Rattle.local_h.proofs.find_base.Goals as goal

pub returns-then-is_some-4 : goal.returns-then-is_some-4
returns-then-is_some-4 c xs ys =
    let l = c.args.lattice.now in
    nearest-found l.count l.ranks.now c.args.k xs ys c.other-a.ensures c.other-b.ensures c.other-c.ensures c.other-d.ensures
    c.if-is_some.ensures c.if-is_some-2.ensures c.if-is_some-3.ensures c.if-is_some-4.ensures
