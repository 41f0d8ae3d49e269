use mathlib.Core.Path.{◌≡◌}
use Prim.Native.Nat.{ℕ, ◌*◌}
use native.Mathlib.Omega.{arith}
use lib.IntN.{ℤ, pos, ◌-ℤ◌}
use Rattle.std.proofs.lemmas.Int.{ints}
use Rattle.float.specs.Root.{near_root}
use Rattle.float.specs.Found.{remainder_from}
use Rattle.float.specs.declared.NearestRoot.{NearestRoot}
use Rattle.float.proofs.Near.{rounded}
use Rattle.float.proofs.with_square.Goals as goal

found : {s s' : ℕ} {z z' : ℤ} → s ≡ s' → z ≡ z' → ◌≡◌ {A = NearestRoot} (record { root = s; remainder = z }) (record { root = s'; remainder = z' })
found e f = rw (e, f)

remainder-is : (n s : ℕ) → s ≡ near_root n → remainder_from n ≡ pos n -ℤ pos (s * s)
remainder-is n s e = rw e

pub overflow_cast-result : goal.overflow_cast-result
overflow_cast-result c = omega (arith, rounded c.args.n _ (omega arith) (omega arith) c.requires.2)

pub overflow_cast-result-3 : goal.overflow_cast-result-3
overflow_cast-result-3 c = omega (arith, ints, rounded c.args.n _ (omega arith) (omega arith) c.requires.2)

pub overflow_sub-result : goal.overflow_sub-result
overflow_sub-result c = omega (arith, ints, rounded c.args.n _ (omega arith) (omega arith) c.requires.2)

pub overflow_cast-result-4 : goal.overflow_cast-result-4
overflow_cast-result-4 c = omega (arith, ints, rounded c.args.n _ (omega arith) (omega arith) c.requires.2)

pub returns : goal.returns
returns c =
    let r = rounded c.args.n _ (omega arith) (omega arith) c.requires.2 in
    found c.requires.2 (omega (arith, ints, r, remainder-is _ _ c.requires.2))
