use mathlib.Core.Path.{sym, subst}
use lib.Dec.{T}
use Rattle.float.proofs.Over.{over-30-degrees}
use Rattle.float.proofs.over_30_degrees.Goals as goal

pub returns : goal.returns
returns c = over-30-degrees c.args.c (subst T (sym c.well_formed.0.1) tt)
