use mathlib.Core.Path.{◌≡◌, ap, sym}
use Prim.Native.Nat.{ℕ, zero, suc, ◌*◌, ◌/◌, ◌%◌, ◌^◌, ◌≤◌, ◌<◌}
use native.Mathlib.Nat.{pow-suc}
use native.Mathlib.Omega.{arith}
use lib.ListN.{length, length-append}
use Rattle.std.proofs.Math.Nat.{one-le-pow}
use Rattle.text.specs.Text.{digit, decimal}
use Rattle.text.proofs.Numbers.{decimal-one, decimal-more}
use Rattle.text.proofs.decimal_length.Goals as goal

-- a number from 10 ^ k up to below 10 ^ (k + 1) has k + 1 digits
sized : (k n : ℕ) → 10 ^ k ≤ n → n < 10 * 10 ^ k → length (decimal n) ≡ suc k
sized zero n l h = ap length (decimal-one n h)
sized (suc k) n l h =
    let p = pow-suc 10 k in
    rw (decimal-more n (omega (arith, p, one-le-pow k 10 (omega arith))), length-append (decimal (n / 10)) (digit (n % 10)), sized k (n / 10) (omega (arith, p)) (omega (arith, p))) (omega arith)

pub returns-then-n-eq0 : goal.returns-then-n-eq0
returns-then-n-eq0 c = sym (ap length (decimal-one c.args.n (omega arith)))

pub returns : goal.returns
returns c = omega (arith, sized _ _ c.ilog10.ensures.power_le c.ilog10.ensures.next_power_gt)
