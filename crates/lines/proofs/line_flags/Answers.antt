use Rattle.std.proofs.Common.{rules, ℕ, arith}
use lib.ListN.{length-replicate}
use Rattle.folds.proofs.Column.{replicate-at}
use Rattle.folds.proofs.Scattered.{counted-le}
use Rattle.view.specs.View.{max_points, value_at}
use Rattle.view.specs.Seen.{view_in}
use Rattle.lines.proofs.Marking.{line-counts}
use Rattle.lines.proofs.line_flags.Goals as goal

pub flagged-rows-requires-clause-numbered : goal.flagged-rows-requires-clause-numbered
flagged-rows-requires-clause-numbered c = ((view_in c.args.view.now).row, record { is = λ k r h p. search rules; inside = c.args.view.now.sheet.ranked.rows })

pub flagged-columns-requires-clause-numbered : goal.flagged-columns-requires-clause-numbered
flagged-columns-requires-clause-numbered c = ((view_in c.args.view.now).column, record { is = λ k r h p. search rules; inside = c.args.view.now.sheet.ranked.columns })

pub count-requires : goal.count-requires
count-requires c m l = omega (arith, replicate-at {A = ℕ} max_points 0 m)

pub count-requires-2 : goal.count-requires-2
count-requires-2 c m l =
    omega (arith, counted-le _ _ _ c.args.view.now.sheet.lattice.count m _ (omega (arith, length-replicate {A = ℕ} max_points 0)) c.count.ensures, replicate-at {A = ℕ} max_points 0 m, c.args.view.now.sheet.lattice.few)

pub returns : goal.returns
returns c =
    let v = c.args.view.now in
    let w = view_in v in
    line-counts w.by_idx max_points w.count v.sheet.lattice.few v.sheet.ranked.indices (record { x = w.x; y = w.y; scale = value_at c.args.scale.now; tolerance = c.args.tolerance }) c.args.minimum w.row w.column
    (c.flagged-rows.ensures w.row (record { is = λ k r h p. search rules; inside = v.sheet.ranked.rows }))
    (c.flagged-columns.ensures w.column (record { is = λ k r h p. search rules; inside = v.sheet.ranked.columns }))
    c.count.ensures c.count-2.ensures
