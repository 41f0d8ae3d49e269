use mathlib.Core.Path.{◌≡◌, sym, ap, ◌∙◌, subst}
use mathlib.Core.Bool.{Bool, false, not}
use lib.Dec.{T}
use lib.Ieee.{binary32, to_bits, is_nan}
use lib.Ieee.Bits.{of_bits-to_bits, nan_bits_is}
use Rattle.float.specs.Scalar.{abs_of}
use Rattle.float.proofs.Nan.{only_nan}
use Rattle.float.proofs.Sign.{abs-bits, abs-no-nan}
use Rattle.float.proofs.abs.Goals as goal

pub returns-then-is_nan : goal.returns-then-is_nan
unfolding abs_of
returns-then-is_nan c = let e = only_nan c.args.x (sym c.is_nan.ensures.value ∙ c.if-is_nan.true) in rw e

pub float_from_bits-result : goal.float_from_bits-result
float_from_bits-result c =
    let x = c.args.x in
    let back = of_bits-to_bits binary32 x (subst T (sym c.well_formed.0.1) tt) in
    subst (λ (t : Bool). T (not t)) (ap is_nan (sym back) ∙ sym (nan_bits_is binary32 (to_bits binary32 x)) ∙ sym (abs-no-nan (to_bits binary32 x))) (let h : is_nan x ≡ false = sym c.is_nan.ensures.value ∙ c.if-is_nan.false in rw h tt)

pub returns : goal.returns
returns c =
    let back = of_bits-to_bits binary32 c.args.x (subst T (sym c.well_formed.0.1) tt) in
    abs-bits (to_bits binary32 c.args.x) ∙ ap abs_of back
