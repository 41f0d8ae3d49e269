use Rattle.std.proofs.Common.{◌+◌, ◌-◌, ◌%◌, ◌^◌, arith}
use Rattle.cells.specs.Points.{bias}
use Rattle.sheet_fills.proofs.Laws.{unbiased}
use Rattle.sheet_fills.proofs.put_cell_number.Goals as goal

pub returns : goal.returns
returns c =
    let b = c.args.b in
    rw (unbiased b ((b + (2 ^ 32 - bias)) % 2 ^ 32) (omega arith) (omega arith) (omega arith)) at c.put_u32.ensures
