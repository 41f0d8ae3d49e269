-- The larger of x and -x compares with every number as x without its sign does. Assumes nothing.
use mathlib.Core.Path.{◌≡◌, refl, sym, ap, ◌∙◌}
use mathlib.Core.Bool.{Bool, true, false, cond, not}
use Prim.Native.Nat.{ℕ, zero, suc, ◌+◌, ◌*◌, ◌<◌}
use native.Mathlib.Nat.{mul-pos, zero-mul, zero-lt-suc}
use native.Mathlib.Omega.{arith}
use borrow.Author.Tests.{lt-ltb, le-ltb}
use lib.IntN.{ℤ}
use lib.Dec.{ltb}
use lib.Ieee.Fits.{up_pos, down_pos}
use lib.Ieee.{Float, nan, inf, fin, up, down, neg, lt, below}
use Rattle.float.specs.Scalar.{abs_of, magnitude_of}

-- r compares with every number as x does
pub record ComparesAs (x r : Float) : Type 0 where
  pub under : (y : Float) → lt r y ≡ lt x y
  pub over : (y : Float) → lt y r ≡ lt y x

itself : (x : Float) → ComparesAs x x
itself x = record { under = λ y. refl; over = λ y. refl }

-- the sign of a zero matters to no comparison
zero-below : (s : Bool) (t : Bool) (n : ℕ) → below s 0 t n ≡ below false 0 t n
zero-below true true n = le-ltb n 0 (omega arith)
zero-below true false n = let e : 0 + n ≡ n = omega arith in ap (ltb 0) e
zero-below false t n = refl

below-zero : (s : Bool) (t : Bool) (n : ℕ) → below t n s 0 ≡ below t n false 0
below-zero true true n = let e : n ≡ n + 0 = omega arith in ap (ltb 0) e
below-zero true false n = sym (le-ltb n 0 (omega arith))
below-zero false t n = refl

pub no-size : (e d : ℤ) → 0 * up e * down d ≡ 0
no-size e d = ap (λ (x : ℕ). x * down d) (zero-mul (up e)) ∙ zero-mul (down d)

zeros : (s : Bool) (e : ℤ) → ComparesAs (fin false 0 e) (fin s 0 e)
unfolding lt
zeros s e = record { under = under; over = over }
  where
    under : (y : Float) → lt (fin s 0 e) y ≡ lt (fin false 0 e) y
    under nan = refl
    under (inf t) = refl
    under (fin t n d) = rw (no-size e d) (zero-below s t (n * up d * down e))

    over : (y : Float) → lt y (fin s 0 e) ≡ lt y (fin false 0 e)
    over nan = refl
    over (inf t) = refl
    over (fin t n d) = rw (no-size e d) (below-zero s t (n * up d * down e))

-- a finite number with its sign, which is not 0: the one without it is the larger
positive : (m : ℕ) (e : ℤ) → 0 < suc m * up e * down e
positive m e = mul-pos (mul-pos (zero-lt-suc m) (up_pos e)) (down_pos e)

either : (b s : Bool) (e : ℤ) → ComparesAs (fin false 0 e) (cond b (fin s 0 e) (fin (not s) 0 e))
either true s e = zeros s e
either false s e = zeros (not s) e

pub compares-as : (x : Float) → ComparesAs (abs_of x) (magnitude_of x)
unfolding lt neg abs_of magnitude_of
compares-as nan = itself nan
compares-as (inf true) = itself (inf false)
compares-as (inf false) = itself (inf false)
compares-as (fin s zero e) = either (below (not s) (0 * up e * down e) s (0 * up e * down e)) s e
compares-as (fin true (suc m) e) = itself (fin false (suc m) e)
compares-as (fin false (suc m) e) =
    let n = suc m * up e * down e in
    rw (lt-ltb 0 (n + n) (omega (arith, positive m e))) (itself (fin false (suc m) e))

-- so it decides which of two is the larger in magnitude
pub by-magnitude : (a b : Float) → lt (magnitude_of a) (magnitude_of b) ≡ lt (abs_of a) (abs_of b)
by-magnitude a b = (compares-as a).under (magnitude_of b) ∙ (compares-as b).over (abs_of a)

-- it is not the number without its sign: of 0 it is -0
pub zero-turned : (e : ℤ) → magnitude_of (fin false 0 e) ≡ fin true 0 e
unfolding lt neg magnitude_of
zero-turned e = rw (no-size e e)
