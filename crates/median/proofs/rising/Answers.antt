use Rattle.median.specs.Keys.{rising_of}
use lib.Dec.{T}
use lib.Ieee.{Float, nan, inf, fin, binary32, fits, is_nan}
use lib.Ieee.Scale.{finite}
use lib.Ieee.Bits.{to_bits-lt}
use native.Mathlib.Omega.{arith}
use mathlib.Core.Bool.{not}
use mathlib.Core.Path.{sym, subst}
use borrow.Author.Tests.{lt-ltb, le-ltb}
use Rattle.median.proofs.rising.Goals as goal

no_nan : (x : Float) → T (finite x) → T (not (is_nan x))
unfolding is_nan
no_nan nan p = absurd p
no_nan (inf s) p = absurd p
no_nan (fin s m e) p = tt

pub float_to_bits-x : goal.float_to_bits-x
float_to_bits-x c = no_nan c.args.x c.requires

pub returns-then-b-lt2147483648 : goal.returns-then-b-lt2147483648
unfolding rising_of
returns-then-b-lt2147483648 c =
    record { is = rw (← c.from-b.ensures, lt-ltb _ _ c.if-b-lt2147483648.true); small = omega arith; number = record { is_finite = c.requires; is-f32 = subst T (sym c.well_formed.0.1) tt } }

pub overflow_sub-result : goal.overflow_sub-result
overflow_sub-result c =
    let f : T (fits binary32 c.args.x) = subst T (sym c.well_formed.0.1) tt in
    omega (arith, to_bits-lt binary32 c.args.x f)

pub returns : goal.returns
unfolding rising_of
returns c =
    record { is = rw (← c.from-b.ensures, le-ltb _ _ c.if-b-lt2147483648.false); small = omega arith; number = record { is_finite = c.requires; is-f32 = subst T (sym c.well_formed.0.1) tt } }
