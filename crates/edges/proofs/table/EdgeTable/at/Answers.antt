use Rattle.edges.proofs.Laws.{table-at}
use Rattle.edges.proofs.table.EdgeTable.at.Goals as goal

pub returns : goal.returns
returns c = table-at _ c.args.axis c.args.k c.args.self.now.edges (c.args.self.now.held c.args.axis) c.requires c.at.ensures
