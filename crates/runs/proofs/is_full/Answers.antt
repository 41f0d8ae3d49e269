use mathlib.Core.Path.{◌≡◌}
use mathlib.Core.Bool.{false}
use native.Mathlib.Omega.{arith}
use lib.Dec.{leb}
use lib.ListN.{length}
use Rattle.runs.specs.Run.{summed, most_sheets, sum_limit, full}
use Rattle.runs.proofs.Full.{any_next, any-end}
use borrow.Author.Tests.{le-leb, lt-leb}
use borrow.Author.Rules.{rules}
use Rattle.runs.proofs.is_full.Goals as goal

pub returns-then-run-ge-MOST_SHEETS : goal.returns-then-run-ge-MOST_SHEETS
unfolding full
returns-then-run-ge-MOST_SHEETS c =
    rw (le-leb most_sheets c.args.run.sheets (omega arith))

pub returns-then-sum-ge-SUM_LIMIT : goal.returns-then-sum-ge-SUM_LIMIT
unfolding full
returns-then-sum-ge-SUM_LIMIT c =
    let l = c.loop-sum in
    let run = c.args.run in
    let e : leb most_sheets run.sheets ≡ false = lt-leb most_sheets run.sheets (omega arith) in
    rw (e, ← l.invariant, any_next (leb sum_limit) run.new_sums l.sum-index 0 (search rules), le-leb _ _ c.if-sum-ge-SUM_LIMIT.true)

pub returns : goal.returns
unfolding full
returns c =
    let l = c.loop-sum in
    let run = c.args.run in
    let e : leb most_sheets run.sheets ≡ false = lt-leb most_sheets run.sheets (omega arith) in
    let size : length run.new_sums ≡ length summed = search rules in
    rw (e, ← l.invariant, any-end (leb sum_limit) run.new_sums l.sum-index (omega arith))
