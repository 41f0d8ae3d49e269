use Rattle.std.proofs.Common.{rules}
use Rattle.text.proofs.Stores.{stored-start, stored_more}
use Rattle.written_file.specs.File.{point_bytes}
use Rattle.worst_sheet.specs.Worst.{point_at}
use Rattle.worst_sheet.proofs.put_points.Goals as goal

pub loop-u-init : goal.loop-u-init
loop-u-init c = search (rules, stored-start)

pub loop-u-preserved : goal.loop-u-preserved
loop-u-preserved c = stored_more (λ k. point_bytes (point_at c.args.n k)) c.loop-u.invariant (c.put_point.ensures c.args.n)
