use Rattle.std.proofs.Common.{rules, subst, sym, length, ◌-◌, ◌≤◌, arith}
use Rattle.std.specs.Io.KnownBytes.{Consumes}
use Rattle.std.proofs.KnownBytes.{Consumes-trans}
use Rattle.standard_input.proofs.Laws.{one-after-other}
use Rattle.standard_input.proofs.read_file.Goals as goal

pub loop-at-preserved : goal.loop-at-preserved
loop-at-preserved g c =
    let l = c.loop-at in
    let inside : l.at ≤ length l.file = omega arith in
    let joined = one-after-other l.at (length l.file - l.at) c.in_ok-n.n l.file c.read_some.new.part inside c.in_ok-n.ensures.bound.0 in
    (search rules, search rules, subst (Consumes _ _) (sym joined) (Consumes-trans _ _ _ _ _ l.invariant.2 c.in_ok-n.ensures.bytes.0))
