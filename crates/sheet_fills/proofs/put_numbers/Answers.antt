use Rattle.text.proofs.Stores.{stored-then}
use Rattle.sheet_fills.proofs.put_numbers.Goals as goal

pub returns : goal.returns
returns c = stored-then (stored-then c.put_u32.ensures c.put_u32-2.ensures) c.put_u32-3.ensures
