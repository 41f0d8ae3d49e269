use mathlib.Core.Path.{◌≡◌, ap, ◌∙◌}
use Prim.Native.Nat.{ℕ, ◌+◌, ◌-◌, ◌*◌, ◌/◌, ◌%◌, ◌^◌}
use native.Mathlib.Nat.{mod-eq_of_lt}
use native.Mathlib.Omega.{arith}
use lib.Count.{count_leading_zeros}
use Rattle.float.specs.Found.{distance_at}
use Rattle.float.specs.Constants.{hidden_bit}
use Rattle.float.proofs.Pattern.{Leading, leading, subnormal, normal, distance-of-pattern, moved_down, moved_up}
use Rattle.float.proofs.positive_root.Goals as goal

-- the machine cuts nothing off
whole : (b : ℕ) → Leading b (count_leading_zeros 32 b) → b * 2 ^ (count_leading_zeros 32 b - 8) % 2 ^ 32 ≡ b * 2 ^ (count_leading_zeros 32 b - 8)
whole b z = mod-eq_of_lt (omega (arith, z.high))

pub overflow_sub-shift : goal.overflow_sub-shift
overflow_sub-shift c = omega (arith, leading c.args.b c.requires.0 (omega arith))

pub overflow_shl-b : goal.overflow_shl-b
overflow_shl-b c = omega (arith, leading c.args.b c.requires.0 (omega arith))

pub overflow_sub-shift-then-b-lt8388608 : goal.overflow_sub-shift-then-b-lt8388608
overflow_sub-shift-then-b-lt8388608 c = omega (arith, leading c.args.b c.requires.0 (omega arith))

pub significand_root-requires : goal.significand_root-requires
significand_root-requires c =
    let z = leading c.args.b c.requires.0 (omega arith) in
    omega (arith, z, whole c.args.b z)

pub returns-then-b-lt8388608 : goal.returns-then-b-lt8388608
returns-then-b-lt8388608 c =
    let b = c.args.b in
    let t = count_leading_zeros 32 b - 8 in
    let z = leading b c.requires.0 (omega arith) in
    distance-of-pattern b b 0 (b * 2 ^ t) (26 - t) _ (subnormal b c.if-b-lt8388608.true) c.requires.0 z.low z.high (omega (arith, z)) (omega arith)
    (moved_up b t (omega (arith, z)))
    (c.significand_root.ensures ∙ ap (λ (m : ℕ). distance_at ((26 - t) / 2) (m * 2 ^ (23 + (26 - t) % 2))) (whole b z))

pub returns : goal.returns
returns c =
    let b = c.args.b in
    let m = hidden_bit + b % hidden_bit in
    let k = b / hidden_bit - 1 in
    distance-of-pattern b m k m (b / hidden_bit + 25) _ (normal b k m (omega arith) (omega arith) (omega arith) (omega arith)) (omega arith) (omega arith) (omega arith) (omega arith) (omega arith)
    (moved_down m k (b / hidden_bit + 25) (omega arith))
    c.significand_root-2.ensures
