use Rattle.view.specs.View.{view_at}
use Rattle.local_h.proofs.Finding.{places-in}
use Rattle.local_h.proofs.pick_local_h_base.Goals as goal

pub returns : goal.returns
returns c xs ys =
    let l = c.args.lattice.now in
    rw (c.place.ensures, c.place-2.ensures, c.place-3.ensures, c.place-4.ensures) (places-in (view_at l.count l.ranks.now xs ys) c.args.k (c.find_base.ensures xs ys) _ _ _ _)
