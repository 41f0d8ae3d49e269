use Rattle.view.specs.Seen.{seen_in}
use Rattle.edges.proofs.Laws.{edge_none, edge_to}
use Rattle.edges.proofs.edge_at.Goals as goal

pub returns-in_default : goal.returns-in_default
returns-in_default c =
    let a = c.args in
    edge_none (seen_in a.points.now) _ a.k (rw (← c.forward.ensures) c.in_default.ensures.value)

pub returns : goal.returns
returns c =
    let a = c.args in
    edge_to (seen_in a.points.now) _ a.k (rw (← c.forward.ensures) c.in-Some.ensures.value) c.norm-len.ensures
