use Rattle.std.proofs.Common.{◌≡◌, arith}
use lib.ListN.{replicate, length-replicate}
use Rattle.folds.proofs.Column.{fill_more, filled}
use Rattle.view.specs.View.{max_points}
use Rattle.view.proofs.filled.Goals as goal

pub loop-k-preserved : goal.loop-k-preserved
loop-k-preserved g c h post =
    fill_more (replicate max_points c.args.rest) c.args.rest h _ (omega (arith, length-replicate {A = g.row.T.Denot} max_points c.args.rest, c.requires.few))
    (post c.loop-k.k c.f.result (omega arith) c.f.ensures) (c.loop-k.invariant h post)

pub returns : goal.returns
returns g c h post =
    let e : c.loop-k.k ≡ c.args.n = omega arith in
    filled _ (omega (arith, c.requires.few)) (rw e at (c.loop-k.invariant h post))
