use Rattle.std.proofs.Common.{eq-eqb, ne_eqb}
use Rattle.text.proofs.Stores.{stored-none, stored-then}
use Rattle.sheet_fills.specs.Bytes.{fill_bytes}
use Rattle.sheet_fills.proofs.put_fill.Goals as goal

pub returns-then-marks-eq0 : goal.returns-then-marks-eq0
returns-then-marks-eq0 c = rw (eq-eqb _ _ c.if-marks-eq0.true) stored-none

pub returns : goal.returns
unfolding fill_bytes
returns c =
    rw (ne_eqb _ _ c.if-marks-eq0.false)
    (stored-then (stored-then (rw c.u_part.ensures at c.put_cell_number.ensures) (rw c.v_part.ensures at c.put_cell_number-2.ensures)) c.put_prediction.ensures)
