use Rattle.lines.specs.Fit.{centre_of, mean_over}
use Rattle.std.proofs.lemmas.List.{take_all}
use native.Mathlib.Omega.{arith}
use Rattle.lines.proofs.Rule.centre.Goals as goal

pub returns : goal.returns
unfolding centre_of mean_over
returns c = rw (c.loop-j.invariant.0, c.loop-j.invariant.1, take_all c.loop-j.j-index c.args.members.now (omega arith))
