use Rattle.std.proofs.Common.{refl, ◌≡◌}
use Rattle.folds.specs.Arith.{◌⊗◌}
use Rattle.float.specs.Constants.{global_overlong_ratio}
use Rattle.wrong_label_filters.specs.Windows.{edges_in, sheet_limit_of}
use Rattle.wrong_label_filters.proofs.FailingEdges.{column-lens}
use Rattle.wrong_label_filters.proofs.judged_edges.EdgesAlong.sheet_limit.Goals as goal

pub returns : goal.returns
returns c =
    let e = c.args.self.now in
    let n = e.table.view.sheet.lattice.count in
    let taken : global_overlong_ratio ⊗ c.middle-limit.result ≡ sheet_limit_of (edges_in e) n = rw (c.middle-limit.ensures, column-lens (edges_in e) n _ c.lengths.ensures) refl in
    record { limit = taken; known = record { total-is = c.requires.total-is; limits = taken } }
