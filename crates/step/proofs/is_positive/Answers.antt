use Rattle.std.proofs.Common.{◌≡◌, refl}
use lib.Ieee.{Float, nan, inf, fin}
use lib.Ieee.Scale.{finite}
use Rattle.std.specs.Float.{float_is_finite}
use Rattle.step.proofs.is_positive.Goals as goal

finite-is : (s : Float) → float_is_finite s ≡ finite s
unfolding float_is_finite
finite-is nan = refl
finite-is (inf s) = refl
finite-is (fin s m e) = refl

pub returns-then-s : goal.returns-then-s
returns-then-s c = rw (c.if-s.true, c.is_finite.ensures.value) (finite-is c.args.s)
