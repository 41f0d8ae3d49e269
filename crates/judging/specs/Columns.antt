-- For the code: what is judged of the columns of a sheet. Assumes nothing.
use Rattle.judged.specs.Judged.{Judged}
use Rattle.judging.specs.Judging.{judged_by}
use Rattle.judging.specs.declared.columns.Columns.{Columns}

abbrev pub judged_in : Columns → Judged
judged_in c = judged_by c.settings c.points.count c.points.keys.now c.points.idx.now c.seen.x.now c.seen.y.now c.strength.now
