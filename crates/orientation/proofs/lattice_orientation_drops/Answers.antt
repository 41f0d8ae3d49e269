use Rattle.orientation.proofs.Laws.{marks-are}
use Rattle.view.specs.Seen.{view_in}
use Rattle.orientation.proofs.lattice_orientation_drops.Goals as goal

pub returns : goal.returns
returns c = marks-are (view_in c.args.view.now) (rw (c.party_for-positive.ensures, c.party_for-negative.ensures) at c.combined.ensures)
