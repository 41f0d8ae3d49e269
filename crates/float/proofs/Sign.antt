-- A pattern, and a rounded number, without its sign. Assumes nothing.
use mathlib.Core.Path.{◌≡◌, refl, sym, ap, ◌∙◌}
use mathlib.Core.Bool.{Bool, true, false, cond}
use Prim.Native.Nat.{ℕ, zero, suc, ◌+◌, ◌*◌, ◌/◌, ◌%◌, ◌^◌}
use native.Mathlib.Omega.{arith}
use borrow.Author.Tests.{lt-leb}
use lib.Dec.{leb, ltb, eqb}
use lib.Ieee.{Format, nan, inf, binary32, prec, emax, low, odd, units, round, of_fields, of_bits, nan_bits}
use lib.Ieee.Bits.{nan_bits_above}
use lib.Ieee.Fits.{round_is}
use Rattle.float.specs.Scalar.{abs_of}
use Rattle.float.specs.Constants.{hidden_bit, sign_bit, first_nan_bits}
use Rattle.float.proofs.Pattern.{of_bits_is}

abs-odd : (d : ℕ) (s : Bool) (q k l : ℕ) → abs_of (odd d s q k l) ≡ odd d false q k l
unfolding abs_of odd
abs-odd d s zero k l = refl
abs-odd d s (suc q) k l = refl

abs-cond : (b t : Bool) (s : Bool) (q k : ℕ) → abs_of (cond b (cond t (inf s) nan) (odd 24 s q k 149)) ≡ cond b (cond t (inf false) nan) (odd 24 false q k 149)
unfolding abs_of
abs-cond true true s q k = refl
abs-cond true false s q k = refl
abs-cond false t s q k = abs-odd 24 s q k 149

abs-fields : (s : Bool) (x t : ℕ) → abs_of (of_fields binary32 s x t) ≡ of_fields binary32 false x t
unfolding of_fields
abs-fields s zero t = abs-odd 24 s t 0 149
abs-fields s (suc x) t = abs-cond (eqb (suc x) 255) (eqb t 0) s (hidden_bit + t) x

pub abs-bits : (b : ℕ) → of_bits binary32 (b % sign_bit) ≡ abs_of (of_bits binary32 b)
abs-bits b =
    of_bits_is (b % sign_bit)
    ∙ ap (λ (s : Bool). of_fields binary32 s (b % sign_bit % sign_bit / hidden_bit) (b % sign_bit % hidden_bit)) (lt-leb sign_bit (b % sign_bit) (omega arith))
    ∙ ap (λ (x : ℕ). of_fields binary32 false (x / hidden_bit) (b % sign_bit % hidden_bit)) same
    ∙ ap (λ (x : ℕ). of_fields binary32 false (b % sign_bit / hidden_bit) x) digits
    ∙ sym (ap abs_of (of_bits_is b) ∙ abs-fields (leb sign_bit b) (b % sign_bit / hidden_bit) (b % hidden_bit))
  where
    same : b % sign_bit % sign_bit ≡ b % sign_bit
    same = omega arith

    digits : b % sign_bit % hidden_bit ≡ b % hidden_bit
    digits = omega arith

-- whether a pattern is a NaN's does not turn on the sign
pub abs-no-nan : (b : ℕ) → nan_bits binary32 (b % sign_bit) ≡ nan_bits binary32 b
abs-no-nan b = nan_bits_above binary32 (b % sign_bit) ∙ ap (λ (x : ℕ). leb first_nan_bits x) same ∙ sym (nan_bits_above binary32 b)
  where
    same : b % sign_bit % sign_bit ≡ b % sign_bit
    same = omega arith

-- ---- nor does what a fraction is rounded to

abs-units : (f : Format) (s : Bool) (q k : ℕ) → abs_of (units f s q k) ≡ units f false q k
unfolding units abs_of
abs-units f s q k = go (ltb (q * 2 ^ k) (2 ^ (low f + suc (emax f))))
  where
    go : (b : Bool) → abs_of (cond b (odd (suc (prec f)) s q k (low f)) (inf s)) ≡ cond b (odd (suc (prec f)) false q k (low f)) (inf false)
    go true = abs-odd (suc (prec f)) s q k (low f)
    go false = refl

pub abs-round : (f : Format) (s : Bool) (a b : ℕ) → abs_of (round f s a b) ≡ round f false a b
abs-round f s a b = ap abs_of (round_is f s a b) ∙ abs-units f s _ _ ∙ sym (round_is f false a b)
