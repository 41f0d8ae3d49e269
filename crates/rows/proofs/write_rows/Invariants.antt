-- The rows of the first k ranks are filled in.
use Rattle.std.proofs.Common.{◌*◌}
use Rattle.folds.specs.Column.{Filling}
use Rattle.judged.specs.Judged.{judged_from}
use Rattle.judged.specs.Shown.{shown_at}
use Rattle.rows.specs.Rows.{row_size, row_byte}
use Rattle.rows.proofs.write_rows.Given as goal

abbrev pub invariant-loop-k : goal.invariant-loop-k
invariant-loop-k l = Filling l.initial.rows 0 (row_byte (shown_at (judged_from l.j l.figures))) (row_size * l.k) l.rows
