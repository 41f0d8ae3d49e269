use Rattle.std.proofs.Common.{ap}
use Rattle.std.specs.Float.Ieee.{lt}
use borrow.Author.Tests.{le-leb, lt-leb}
use Rattle.wrong_label_filters.specs.Windows.{sheet_in, edges_in}
use Rattle.wrong_label_filters.proofs.FailingEdges.{fails-is, verdict-is}
use Rattle.wrong_label_filters.proofs.judged_edges.EdgesAlong.fails_at.Goals as goal

pub returns-then-v-ge5-clause-fails : goal.returns-then-v-ge5-clause-fails
returns-then-v-ge5-clause-fails c =
    rw (verdict-is _ _ _ c.requires.1.total-is c.at-own.ensures c.window_at-v.ensures, c.if-own.true, le-leb _ _ c.if-v-ge5.true) c.fails_in.ensures

pub returns-then-known-ge8-clause-fails : goal.returns-then-known-ge8-clause-fails
returns-then-known-ge8-clause-fails c =
    rw (verdict-is _ _ _ c.requires.1.total-is c.at-own.ensures c.window_at-v.ensures, c.if-own.true, lt-leb _ _ c.if-v-ge5.false, le-leb _ _ c.if-known-ge8.true)
    (ap (λ x. lt x c.at-own.result.len) c.sheet_limit.ensures.limit)

pub returns-else-known-ge8-clause-fails : goal.returns-else-known-ge8-clause-fails
returns-else-known-ge8-clause-fails c =
    rw (verdict-is _ _ _ c.requires.1.total-is c.at-own.ensures c.window_at-v.ensures, c.if-own.true, lt-leb _ _ c.if-v-ge5.false, lt-leb _ _ c.if-known-ge8.false)

pub returns-else-own-clause-fails : goal.returns-else-own-clause-fails
returns-else-own-clause-fails c =
    let e = c.args.self.now in
    rw (fails-is (sheet_in e) (edges_in e) c.args.k, ← c.at-own.ensures, c.if-own.false)
