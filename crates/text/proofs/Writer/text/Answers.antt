use Rattle.std.proofs.Common.{◌<◌, length}
use native.Mathlib.Numerals.{add-one}
use lib.Seq.{take-suc}
use Rattle.text.proofs.Stores.{stored-then}
use Rattle.text.proofs.Writer.text.Goals as goal

pub loop-b-preserved : goal.loop-b-preserved
loop-b-preserved c =
    let s = c.args.s.now in
    let l = c.loop-b in
    let t : l.b-index < length s = c.loop-b-test.true in
    rw (add-one l.b-index, take-suc s l.b-index 0 t) (stored-then l.invariant c.byte.ensures)
