use Rattle.std.proofs.Common.{sym}
use Rattle.points.proofs.Columns.{points-length}
use Rattle.ruling.proofs.Columns.{read-arrays}
use Rattle.ruling.proofs.Parts.{in_parts, header-room, handed-on, header-refused, points-refused, points-accepted}
use Rattle.ruling.proofs.read.Goals as goal

pub returns-in_err-header : goal.returns-in_err-header
returns-in_err-header c = handed-on _ _ _ c.from_residual.ensures.1 (header-refused _ _ _ c.in_err-header.ensures)

pub read-requires-2 : goal.read-requires-2
read-requires-2 c = header-room _ _ _ c.in_ok-header.ensures

pub returns-in_err-read : goal.returns-in_err-read
returns-in_err-read c = handed-on _ _ _ c.from_residual-in_err-read.ensures.1 (rw (← in_parts _ _, ← c.in_ok-header.ensures) (points-refused _ _ _ c.in_err-read.ensures))

pub invariant_of-result : goal.invariant_of-result
invariant_of-result c =
    let few = (header-room _ _ _ c.in_ok-header.ensures).records.few in
    record { arrays = read-arrays c.in_ok-header.header.settings _ _ (λ k. (c.type_inv.file k).fits) few c.in_ok-read.ensures }

pub returns : goal.returns
returns c =
    let few = (header-room _ _ _ c.in_ok-header.ensures).records.few in
    rw (← in_parts _ _, ← c.in_ok-header.ensures) (points-accepted _ _ c.in_ok-read.ensures (sym (points-length _ _ few)))
