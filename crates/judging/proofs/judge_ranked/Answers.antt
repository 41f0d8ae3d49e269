use Rattle.std.proofs.Common.{◌∙◌}
use Rattle.judging.proofs.Laws.{are-ranked, celled, weighed, ranked-by}
use Rattle.judging.proofs.judge_ranked.Goals as goal

pub invariant_of-view : goal.invariant_of-view
invariant_of-view c =
    let r = c.args.columns.now in
    record { ranked = are-ranked r.points.count r.points.keys.now r.points.idx.now r.seen.x.now r.seen.y.now r.strength.now r.arrays c.requires.ranks }

pub judge_view-requires : goal.judge_view-requires
judge_view-requires c =
    let r = c.args.columns.now in (
      celled r.points.count r.points.keys.now r.points.idx.now r.seen.x.now r.seen.y.now r.strength.now r.arrays c.requires.ranks,
      weighed r.points.count r.points.keys.now r.points.idx.now r.seen.x.now r.seen.y.now r.strength.now r.arrays c.requires.ranks,
      c.requires.blank,
    )

pub returns : goal.returns
returns c =
    let r = c.args.columns.now in
    c.judge_view.ensures ∙ ranked-by r.settings r.points.count r.points.keys.now r.points.idx.now r.seen.x.now r.seen.y.now r.strength.now c.requires.ranks
