use borrow.Author.Rules.{rules}
use mathlib.Core.Path.{◌≡◌, sym, ap, ◌∙◌, subst}
use Prim.Native.Nat.{ℕ, ◌%◌, ◌<◌}
use lib.Ieee.{Float, binary32, to_bits}
use mir.Syntax.{w32}
use mir.Val.{SFits, to_z, of_z}
use Rattle.std.proofs.Common.{Some}
use Rattle.std.proofs.lemmas.Int.{to_z-of_z}
use Rattle.float.specs.Constants.{sign_bit, infinity_bits}
use Rattle.float.specs.Found.{scaled_root_at}
use Rattle.float.specs.Remainder.{remainder_of, distance_of}
use Rattle.float.specs.declared.Distance.{Distance}
use Rattle.float.proofs.Whole.{root-bits, read, neither}
use Rattle.float.proofs.whole_root.Goals as goal
use Rattle.std.proofs.lemmas.Float.{T_from_true}

-- what the distance d of x tells
rest : (x : Float) {d : Distance} → d ≡ distance_of x → remainder_of x ≡ d.remainder
rest x e = sym (ap (λ (d : Distance). d.remainder) e)

bits : (x : Float) {d : Distance} {b : ℕ} → d ≡ distance_of x → b ≡ to_bits binary32 d.value → b % sign_bit ≡ root-bits x
bits x e f = ap (λ (n : ℕ). n % sign_bit) (f ∙ ap (λ (d : Distance). to_bits binary32 d.value) e)

pub scaled_root-requires : goal.scaled_root-requires
scaled_root-requires c =
    let x = c.args.x in
    let e = c.root_distance-d.ensures in
    subst (λ (b : ℕ). b < infinity_bits) (sym (bits x e c.to_bits.ensures)) (read x c.in_ok-z.z (T_from_true _ c.well_formed.0.1) (rest x e ∙ c.in_ok-z.was)).low

pub returns : goal.returns
returns c =
    let x = c.args.x in
    let z = c.in_ok-z.z in
    let e = c.root_distance-d.ensures in
    let f : SFits w32 z = search rules in
    ap Some (c.scaled_root.ensures ∙ ap (λ (b : ℕ). scaled_root_at b (to_z w32 (of_z w32 z))) (bits x e c.to_bits.ensures) ∙ ap (scaled_root_at (root-bits x)) (to_z-of_z w32 z f))
    ∙ (read x z (T_from_true _ c.well_formed.0.1) (rest x e ∙ c.in_ok-z.was)).same

pub returns-in_err-z : goal.returns-in_err-z
returns-in_err-z c = c.from_residual.ensures ∙ neither c.args.x (rest c.args.x c.root_distance-d.ensures ∙ c.in_err-z.was)
