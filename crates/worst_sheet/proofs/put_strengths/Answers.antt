use Rattle.std.proofs.Common.{rules}
use Rattle.text.proofs.Stores.{stored-start, stored_more}
use Rattle.sheet_file.specs.Bytes.{little_endian}
use Rattle.worst_sheet.specs.Worst.{strength_at}
use Rattle.worst_sheet.proofs.put_strengths.Goals as goal

pub loop-u-init : goal.loop-u-init
loop-u-init c = search (rules, stored-start)

pub loop-u-preserved : goal.loop-u-preserved
loop-u-preserved c = stored_more (λ k. little_endian (strength_at c.args.n k)) c.loop-u.invariant (rw c.strength.ensures at c.put_u32.ensures)
