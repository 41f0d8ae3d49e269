use Rattle.std.proofs.Common.{◌≡◌, arith, rules}
use Rattle.cells.specs.Cell.{cells_at}
use Rattle.text.proofs.Stores.{stored-start, stored_more, shows}
use Rattle.sheet_fills.specs.Bytes.{fills_bytes}
use Rattle.sheet_fills.proofs.Laws.{piece}
use Rattle.sheet_fills.proofs.put_fills.Goals as goal

pub loop-k-init : goal.loop-k-init
unfolding fills_bytes
loop-k-init c = let a = c.args in stored-start (piece (cells_at a.columns.now.points.keys.now) a.marks.now a.fills.now)

pub loop-k-preserved : goal.loop-k-preserved
unfolding fills_bytes
loop-k-preserved c =
    let a = c.args in
    stored_more (piece (cells_at a.columns.now.points.keys.now) a.marks.now a.fills.now) c.loop-k.invariant c.put_fill.ensures

pub returns : goal.returns
returns c =
    let e : c.loop-k.k ≡ c.args.columns.now.points.count = omega arith in
    shows c.new-w.ensures (rw e at c.loop-k.invariant) c.answer.ensures (search rules)
