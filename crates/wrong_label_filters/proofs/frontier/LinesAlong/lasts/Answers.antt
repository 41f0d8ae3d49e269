use Rattle.std.proofs.Common.{arith, refl}
use Rattle.wrong_label_filters.specs.Lasts.{line_in}
use Rattle.wrong_label_filters.proofs.LineEnds.{lasts-none, lasts-more}
use Rattle.wrong_label_filters.proofs.frontier.LinesAlong.lasts.Goals as goal

pub loop-k-init : goal.loop-k-init
loop-k-init c = lasts-none _

pub loop-k-preserved : goal.loop-k-preserved
loop-k-preserved c =
    lasts-more (line_in c.args.self.now) c.loop-k.k _ _ c.first.ensures.0 refl (omega (arith, c.first.ensures.1, c.args.self.now.view.sheet.lattice.few)) c.loop-k.invariant
