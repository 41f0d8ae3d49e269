use mathlib.Core.Path.{◌≡◌, sym, ap, ◌∙◌, subst}
use Prim.Native.Nat.{ℕ, ◌+◌, ◌*◌, ◌%◌, ◌^◌, ◌≤◌, ◌<◌}
use native.Mathlib.Omega.{arith}
use Rattle.float.specs.Root.{near_root}
use Rattle.float.specs.declared.NearestRoot.{NearestRoot}
use Rattle.float.specs.Found.{remainder_from}
use Rattle.float.proofs.Near.{shifted, significand}
use Rattle.float.proofs.Nan.{no-nan-pattern}
use Rattle.float.proofs.significand_root.Goals as goal

-- the root of the number, which the machine does not cut, has 24 bits
small : (m p : ℕ) (s : NearestRoot) → 2 ^ 23 ≤ m → m < 2 ^ 24 → p < 2 → s ≡ record { root = near_root (m * 2 ^ (23 + p) % 2 ^ 64); remainder = remainder_from (m * 2 ^ (23 + p) % 2 ^ 64) } → s.root < 2 ^ 24
small m p s l h q e =
    subst (λ (r : ℕ). r < 2 ^ 24) (sym (ap (λ (t : NearestRoot). t.root) e ∙ ap near_root (shifted m p l h q).0)) (significand m p l h q).1

pub near_root-s-requires : goal.near_root-s-requires
near_root-s-requires c = omega (arith, shifted c.from.result (c.args.w % 2) (omega arith) (omega arith) (omega arith))

pub float_from_bits-result : goal.float_from_bits-result
float_from_bits-result c =
    let s = small c.from.result (c.args.w % 2) _ (omega arith) (omega arith) (omega arith) c.near_root-s.ensures in
    no-nan-pattern _ (omega (arith, s))
