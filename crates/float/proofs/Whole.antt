-- The root by whole numbers, read off the pattern of the f32 root. Assumes nothing.
use mathlib.Core.Path.{◌≡◌, refl, sym, ap, ◌∙◌, subst}
use mathlib.Core.Bool.{Bool, true, false, not}
use Prim.Native.Nat.{ℕ, zero, suc, ◌+◌, ◌*◌, ◌/◌, ◌%◌, ◌^◌, ◌≤◌, ◌<◌}
use native.Mathlib.Nat.{two-pow-succ}
use native.Mathlib.Omega.{arith}
use lib.Dec.{T, eqb, eqb→eq}
use lib.Pow.{pow_pos}
use lib.IntN.{ℤ, pos, negsuc, ◌-ℤ◌}
use lib.Ieee.{Float, nan, inf, fin, binary32, fits, of_bits, to_bits}
use lib.Ieee.Bits.{to_bits-of_bits, nan_bits_is}
use borrow.Author.Tests.{ne_eqb}
use Rattle.std.proofs.Common.{Option, Some, None}
use Rattle.std.proofs.lemmas.Int.{ints}
use Rattle.float.specs.Constants.{hidden_bit, sign_bit, infinity_bits}
use Rattle.float.specs.Root.{digits4, scaled, units, near_root, root_units, root_of}
use Rattle.float.specs.Remainder.{scaled_root, whole_root_of, remainder_of}
use Rattle.float.specs.Found.{scaled_root_at}
use Rattle.float.specs.declared.ScaledRoot.{ScaledRoot}
use Rattle.float.proofs.Nan.{no-nan-pattern}
use Rattle.float.proofs.Pattern.{normal}
use Rattle.float.proofs.Theorems.{rooted}

-- the pattern of the root of x without its sign
abbrev pub root-bits : Float → ℕ
root-bits x = to_bits binary32 (root_of x) % sign_bit

-- with the remainder z it gives the root by whole numbers
pub record Read (x : Float) (z : ℤ) : Type 0 where
  pub low : root-bits x < infinity_bits
  pub same : Some (scaled_root_at (root-bits x) z) ≡ whole_root_of x

-- ---- zeros

-- a zero is written in one way
of-zero : (s : Bool) (e : ℤ) → T (fits binary32 (fin s zero e)) → e ≡ pos 0
unfolding fits
of-zero s (pos zero) t = refl
of-zero s (pos (suc k)) t = absurd (omega (arith, eqb→eq (2 ^ suc k * 1) 1 t, two-pow-succ k, pow_pos k))
of-zero s (negsuc k) t = absurd (omega (arith, eqb→eq (1 * 2 ^ suc k) 1 t, two-pow-succ k, pow_pos k))

read-zero : (s : Bool) → Read (fin s zero (pos 0)) (pos 0)
unfolding root_of whole_root_of to_bits
read-zero true = record { low = omega arith; same = refl }
read-zero false = record { low = omega arith; same = refl }

-- ---- f32s above 0

-- the pattern b of a root s with the field d + 51
module _ (b d s : ℕ) (e : b ≡ (d + 50) * hidden_bit + s) (l : hidden_bit ≤ s) (h : s < 2 ^ 24) (z : ℤ) where
  fields : ◌≡◌ {A = ScaledRoot} (scaled_root_at b z) (record { root = s; remainder = z; power = pos 198 -ℤ pos (2 * d) })
  fields =
      let n : eqb b 0 ≡ false = ne_eqb b 0 (λ q. omega (arith, q)) in
      let r : hidden_bit + b % hidden_bit ≡ s = omega arith in
      let f : b / hidden_bit ≡ d + 51 = omega arith in
      let p : pos 300 -ℤ pos (b / hidden_bit * 2) ≡ pos 198 -ℤ pos (2 * d) = omega (arith, ints) in
      rw (n, r, p)

module _ (m : ℕ) (e : ℤ) (t : T (fits binary32 (fin false (suc m) e))) where
  abbrev n : ℕ
  n = units (suc m) e

  abbrev b : ℕ
  b = (digits4 n + 50) * hidden_bit + near_root (scaled n)

  value : of_bits binary32 b ≡ root_of (fin false (suc m) e)
  unfolding root_of root_units
  value =
      let k = rooted m e t in
      normal b (digits4 n + 50) (near_root (scaled n)) refl k.low k.high (omega (arith, k.few))

  bits : root-bits (fin false (suc m) e) ≡ b
  bits =
      let k = rooted m e t in
      let q : b % sign_bit ≡ b = omega (arith, k.few, k.high) in
      ap (λ (y : Float). to_bits binary32 y % sign_bit) (sym value)
      ∙ ap (λ (y : ℕ). y % sign_bit) (to_bits-of_bits binary32 b (omega (arith, k.few, k.high)) (subst (λ (u : Bool). T (not u)) (nan_bits_is binary32 b) (no-nan-pattern b (omega (arith, k.few, k.high)))))
      ∙ q

  read-positive : Read (fin false (suc m) e) (scaled_root n).remainder
  unfolding whole_root_of scaled_root
  read-positive =
      let k = rooted m e t in
      record {
        low = rw bits (omega (arith, k.few, k.high));
        same = ap (λ (y : ℕ). Some (scaled_root_at y (scaled_root n).remainder)) bits ∙ ap Some (fields b (digits4 n) (near_root (scaled n)) refl k.low k.high (scaled_root n).remainder);
      }

-- ---- all

pub read : (x : Float) (z : ℤ) → T (fits binary32 x) → remainder_of x ≡ Some z → Read x z
unfolding remainder_of whole_root_of
read nan z t e = cc
read (inf s) z t e = cc
read (fin s zero y) z t e = let p = of-zero s y t in let q : pos 0 ≡ z = cc in rw (p, ← q) (read-zero s)
read (fin true (suc m) y) z t e = cc
read (fin false (suc m) y) z t e = let q : (scaled_root (units (suc m) y)).remainder ≡ z = cc in rw (← q) (read-positive m y t)

pub neither : (x : Float) → remainder_of x ≡ None → None ≡ whole_root_of x
unfolding remainder_of whole_root_of
neither nan e = refl
neither (inf s) e = refl
neither (fin s zero y) e = cc
neither (fin true (suc m) y) e = refl
neither (fin false (suc m) y) e = cc

-- S has 24 bits
pub root_small : (x : Float) (w : Option ScaledRoot) → T (fits binary32 x) → w ≡ whole_root_of x → (r : ScaledRoot) → w ≡ Some r → r.root < 2 ^ 24
unfolding whole_root_of scaled_root
root_small x w t e r f = at x (sym e ∙ f) t
  where
    at : (x : Float) → whole_root_of x ≡ Some r → T (fits binary32 x) → r.root < 2 ^ 24
    at nan q t = cc
    at (inf s) q t = cc
    at (fin s zero y) q t = let e : 0 ≡ r.root = cc in omega arith
    at (fin true (suc m) y) q t = cc
    at (fin false (suc m) y) q t = let e : near_root (scaled (units (suc m) y)) ≡ r.root = cc in omega (arith, (rooted m y t).high)
