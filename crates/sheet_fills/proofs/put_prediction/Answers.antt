use Rattle.sheet_fills.specs.Bytes.{prediction_bytes}
use Rattle.sheet_fills.proofs.put_prediction.Goals as goal

pub returns-in-None : goal.returns-in-None
unfolding prediction_bytes
returns-in-None c = rw c.in-None.is c.put_numbers.ensures

pub returns-in-Some : goal.returns-in-Some
unfolding prediction_bytes
returns-in-Some c = rw (c.in-Some.is) (rw (c.from.ensures, c.to_bits.ensures, c.to_bits-in-Some.ensures) at c.put_numbers-in-Some.ensures)
