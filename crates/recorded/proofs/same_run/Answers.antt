use Rattle.std.proofs.Common.{sym, eqb}
use Rattle.std.proofs.Math.Bool.{and_assoc}
use Rattle.folds.specs.Same.{same_list}
use Rattle.recorded.proofs.Laws.{entries-same}
use Rattle.recorded.proofs.same_run.Goals as goal

pub returns : goal.returns
returns c =
    let a = c.args.a in
    let b = c.args.b in
    rw (c.eq.ensures, entries-same a.old_sums b.old_sums, entries-same a.new_sums b.new_sums)
    (sym (and_assoc (same_list a.old_sums b.old_sums) (eqb a.sheets b.sheets) (same_list a.new_sums b.new_sums)))
