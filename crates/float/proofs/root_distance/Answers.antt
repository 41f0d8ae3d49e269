use mathlib.Core.Path.{refl, sym, ap, ◌∙◌}
use native.Mathlib.Omega.{arith}
use lib.Ieee.{Float, binary32, to_bits}
use lib.Ieee.Bits.{to_bits-lt}
use Rattle.std.proofs.Common.{None}
use Rattle.float.specs.Constants.{infinity_bits, sign_bit}
use Rattle.float.specs.Remainder.{distance_of}
use Rattle.float.specs.declared.Distance.{Distance}
use Rattle.float.proofs.Nan.{nan-is}
use Rattle.float.proofs.Special.{pattern, own_distance, distance-of-nan, distance-of-zero, distance-of-minus-zero, distance-of-one, distance-of-infinity, no-root}
use Rattle.float.proofs.root_distance.Goals as goal
use Rattle.std.proofs.lemmas.Float.{T_from_true}

-- what owning an f32 tells: the format holds it
abbrev unrooted : Float → Distance
unrooted x = record { value = x; remainder = None }

pub returns-then-is_nan : goal.returns-then-is_nan
returns-then-is_nan c = c.new.ensures ∙ distance-of-nan c.args.x (sym c.is_nan.ensures.value ∙ c.if-is_nan.true)

pub returns-then-b-eq0 : goal.returns-then-b-eq0
returns-then-b-eq0 c = c.new-then-b-eq0.ensures ∙ own_distance c.args.x 0 (T_from_true _ c.well_formed.0.1) c.if-b-eq0.true distance-of-zero

pub returns-then-b-eq1065353216 : goal.returns-then-b-eq1065353216
returns-then-b-eq1065353216 c = c.new-then-b-eq1065353216.ensures ∙ own_distance c.args.x 0x3f80_0000 (T_from_true _ c.well_formed.0.1) c.if-b-eq1065353216.true distance-of-one

pub returns-then-b-lt2139095040 : goal.returns-then-b-lt2139095040
returns-then-b-lt2139095040 c = c.positive_root.ensures ∙ ap distance_of (pattern c.args.x _ (T_from_true _ c.well_formed.0.1) refl)

pub returns-then-b-eq2139095040 : goal.returns-then-b-eq2139095040
returns-then-b-eq2139095040 c = c.new-then-b-eq2139095040.ensures ∙ own_distance c.args.x infinity_bits (T_from_true _ c.well_formed.0.1) c.if-b-eq2139095040.true distance-of-infinity

pub returns-then-b : goal.returns-then-b
returns-then-b c = c.new-then-b.ensures ∙ own_distance c.args.x sign_bit (T_from_true _ c.well_formed.0.1) c.if-b.true distance-of-minus-zero

pub returns : goal.returns
returns c =
    let x = c.args.x in
    let b = to_bits binary32 x in
    c.new-2.ensures
    ∙ ap unrooted nan-is
    ∙ no-root b (omega (arith, c.if-b-eq2139095040.false, c.if-b-lt2139095040.false)) (to_bits-lt binary32 x (T_from_true _ c.well_formed.0.1)) c.if-b.false
    ∙ ap distance_of (pattern x b (T_from_true _ c.well_formed.0.1) refl)
