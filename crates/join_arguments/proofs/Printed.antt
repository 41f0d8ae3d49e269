-- A whole number as cell numbers are printed is what std prints of it. Assumes nothing.
use Rattle.std.proofs.Common.{◌≡◌, Bool, true, false, Option, Some, Result, Ok, ℕ, suc, ◌+◌, ◌^◌, ◌<◌, ◌≤◌, List, ◌∷◌, length, sym, ap, ◌∙◌, arith}
use Rattle.std.specs.Prelude.{ℤ, pos, negsuc, IfSome}
use Rattle.std.specs.Bool.{then_some}
use Rattle.folds.specs.Same.{same_list}
use Rattle.folds.proofs.Same.{same_self, same-equal}
use Rattle.std.specs.Int.{w32}
use Rattle.std.specs.Int.RustNames.{FitsSigned}
use Rattle.std.specs.Fmt.{signed_decimal, decimal as std_decimal}
use Rattle.std.specs.Str.{IsUtf8}
use Rattle.std.specs.Str.Parse.{ParsesSigned}
use Rattle.std.proofs.lemmas.Fmt.{decimal_from_appends, length-decimal-le, IsAscii-signed, parse-signed_decimal, length_signed_le}
use Rattle.std.proofs.lemmas.Str.{IsUtf8-from_ascii}
use lib.Signed.{mag}
use Rattle.text.specs.Text.{decimal, whole}
use Rattle.text.proofs.Numbers.{decimal-one, decimal-more}

decimal-is : (n : ℕ) → n < 10 ^ 10 → decimal n ≡ std_decimal n
decimal-is n l = decimal_from_appends (λ k n. decimal n) (record { one = λ k n h. decimal-one n h; more = λ k n h. decimal-more n h }) 10 n (omega arith) (length-decimal-le 10 n (omega arith) l (omega arith))

-- a number of 32 bits has a small magnitude
pub small : (z : ℤ) → FitsSigned w32 z → mag z + 1 < 10 ^ 10
small (pos n) f = omega (arith, f.sfits)
small (negsuc n) f = omega (arith, f.sfits)

pub whole-is : (z : ℤ) → FitsSigned w32 z → whole z ≡ signed_decimal z
unfolding whole
whole-is (pos n) f = decimal-is n (omega (arith, f.sfits))
whole-is (negsuc n) f = ap (λ t. 45 ∷ t) (decimal-is (suc n) (omega (arith, f.sfits)))

pub whole-utf8 : (z : ℤ) → FitsSigned w32 z → IsUtf8 (whole z)
whole-utf8 z f = rw (whole-is z f) (IsUtf8-from_ascii (signed_decimal z) (IsAscii-signed z (omega (arith, small z f))))

pub whole-parsed : {E : Type 0} (z : ℤ) (argument : List ℕ) (r : Result ℤ E) → FitsSigned w32 z → whole z ≡ argument → ParsesSigned w32 10 argument r → r ≡ Ok z
whole-parsed z argument r f e h = parse-signed_decimal w32 z argument r f (omega (arith, small z f)) (sym e ∙ whole-is z f) h

-- two numbers that are both held are one
pub some_same : {y z : ℤ} → ◌≡◌ {A = Option ℤ} (Some y) (Some z) → y ≡ z
some_same e = cc

-- "-2147483648" has 11 characters
pub whole-length : (z : ℤ) → FitsSigned w32 z → length (whole z) ≤ 11
whole-length z f = rw (whole-is z f) (length_signed_le 10 z (small z f) (omega (arith, small z f)))

module _ (argument : List ℕ) (y : ℤ) (b : Bool) (q : b ≡ same_list (whole y) argument) where
  -- a number that is printed and compared is handed back for its own text
  pub asked-every : (z : ℤ) → y ≡ z → whole z ≡ argument → then_some b y ≡ Some z
  asked-every z e h = rw (q, e, h, same_self argument)

  -- and for no other
  pub asked-alone : IfSome (then_some b y) (λ z. whole z ≡ argument)
  asked-alone = go b q
    where
      go : (b : Bool) → b ≡ same_list (whole y) argument → IfSome (then_some b y) (λ z. whole z ≡ argument)
      go true e = same-equal (whole y) argument (sym e)
      go false e = tt
