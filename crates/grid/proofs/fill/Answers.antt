use Rattle.grid.specs.Tables.{ranks_of}
use Rattle.grid.proofs.Filled.{blocks-filled}
use Rattle.grid.proofs.fill.Goals as goal

pub returns : goal.returns
unfolding ranks_of
returns c =
    blocks-filled _ _ _ _ _ _ _ _ _ c.args.points.now.keyed.few c.requires c.fill_near.ensures c.fill_rows.ensures c.fill_columns.ensures c.fill_indices.ensures
