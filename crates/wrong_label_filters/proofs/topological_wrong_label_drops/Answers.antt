use Rattle.view.specs.Seen.{view_in}
use Rattle.wrong_label_filters.proofs.Laws.{labels-are}
use Rattle.wrong_label_filters.proofs.topological_wrong_label_drops.Goals as goal

pub returns : goal.returns
returns c =
    let v = c.args.table.now.view in
    labels-are (view_in v) c.args.cell v.sheet.lattice.few c.mark_failing.ensures c.mark_failing-2.ensures (c.mark_close.ensures v.sheet.lattice.ranks.now) c.mark_frontier.ensures (c.by_index.ensures v.seen.x.now v.seen.y.now)
