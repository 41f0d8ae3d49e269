use Rattle.std.proofs.Common.{arith, rules}
use Rattle.text.specs.Stored.{Stored}
use Rattle.text.proofs.Stores.{stored-none, shows}
use Rattle.worst_sheet.specs.Worst.{worst_of}
use Rattle.worst_sheet.proofs.Asked.{worst-is, worst-none}
use Rattle.worst_sheet.proofs.write_worst.Goals as goal
use Rattle.worst_sheet.proofs.write_worst.Goals.{in-Some, in_default}

pub put_sheet-requires : goal.put_sheet-requires
put_sheet-requires c = omega (arith, c.in-Some.ensures)

pub returns : goal.returns
returns c =
    let a = c.args.argument.now in
    let written : Stored c.new-w.result (worst_of a) c.match-asked_points.w =
    elim c.match-asked_points.branch [
      | in-Some w ↦ let e = w.in-Some.ensures in rw (w.w-is, worst-is a (omega arith), ← e.points) w.put_sheet.ensures
      | in_default w ↦ let e = w.in_default.ensures in rw (w.w-is, worst-none a (omega arith)) stored-none
    ] in
    shows c.new-w.ensures written c.answer.ensures (search rules)
