use Rattle.orientation.proofs.Laws.{party-is}
use Rattle.view.specs.Seen.{view_in}
use Rattle.orientation.proofs.party_for.Goals as goal

pub returns : goal.returns
returns c =
    let v = c.args.view.now in
    party-is (view_in v) _ c.requires c.args.side c.votes_for.ensures c.side_members-members.ensures (c.by_index.ensures v.seen.x.now v.seen.y.now)
