use Rattle.std.proofs.Common.{rules, ◌≡◌}
use Rattle.std.specs.Prelude.{count_by, fold, None}
use Rattle.std.proofs.iter.runs.Made.{chains}
use Rattle.edge_shape.specs.Figures.{figures_by, is_adjacent, is_valid, noted_cell}
use Rattle.edge_shape.proofs.figures_by.Goals as goal

pub returns : goal.returns
unfolding figures_by
returns c =
    let a : c.count-adjacent.result ≡ count_by is_adjacent c.args.cells = search (rules, chains) in
    let b : c.count-valid.result ≡ count_by (is_valid c.args.g) c.args.cells = search (rules, chains) in
    let d : c.fold.result ≡ fold noted_cell None c.args.cells = search (rules, chains) in
    rw (d, c.first_reason.ensures, a, b)
