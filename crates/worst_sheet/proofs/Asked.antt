-- Which argument asks for how many points, and what is written for it. Assumes nothing.
use Rattle.std.specs.List.{fold}
use Rattle.std.proofs.Common.{◌≡◌, Option, Some, Result, Ok, ℕ, ◌+◌, ◌*◌, ◌-◌, ◌%◌, ◌<◌, ◌≤◌, Bool, true, false, cond, ltb, List, [], length, sym, refl, ap, ◌∙◌, arith, rules, le-ltb, lt-ltb}
use Rattle.std.proofs.lemmas.Str.{IsUtf8-from_ascii}
use Rattle.std.proofs.lemmas.Str.Ascii.{IsAscii-nil, IsAscii-cons, IsAscii-push}
use Rattle.std.proofs.lemmas.Str.Parse.{IsNumeralModel, numerals_by_fold, parse_gives}
use Rattle.std.specs.Str.{IsUtf8, IsAscii}
use Rattle.std.specs.Str.Parse.{ParsesUnsigned}
use lib.ListN.{length-append}
use Rattle.folds.specs.Lists.{All}
use mathlib.Core.Bool.{false≢true}
use native.Mathlib.Decide.{dec_lt}
use Rattle.std.specs.Bool.{then_some}
use Rattle.folds.specs.Below.{first}
use Rattle.folds.proofs.Below.{first-before, first_holds, first-le, first-from}
use Rattle.folds.specs.Same.{same_list}
use Rattle.folds.proofs.Same.{same_self, same-equal}
use Rattle.view.specs.View.{max_points}
use Rattle.text.specs.Text.{decimal, digit}
use Rattle.text.proofs.Numbers.{read, decimal_value, decimal-ind, decimal-reads, decimal-digits}
use Rattle.worst_sheet.specs.Worst.{worst_file, asked, worst_of}
use Rattle.worst_sheet.specs.Value.{asked_in}

-- two numbers that are both held are one
pub some_same : {m n : ℕ} → ◌≡◌ {A = Option ℕ} (Some m) (Some n) → m ≡ n
some_same e = cc

-- a decimal text is no other number's
one_number : (m n : ℕ) → decimal m ≡ decimal n → m ≡ n
one_number m n e = sym (decimal-reads m) ∙ ap (read 10 decimal_value) e ∙ decimal-reads n

-- ---- what `from_utf8` and `parse` give for a decimal text

pub decimal-utf8 : (n : ℕ) → IsUtf8 (decimal n)
decimal-utf8 n = IsUtf8-from_ascii (decimal n) (decimal-ind (λ n t. IsAscii t) (λ n h. IsAscii-cons (48 + n) [] (omega arith) IsAscii-nil) (λ n t h e. IsAscii-push t (48 + n % 10) e (omega arith)) n)

decimal-some : (n : ℕ) → 0 < length (decimal n)
decimal-some = decimal-ind (λ n t. 0 < length t) (λ n h. omega arith) (λ n t h e. rw (length-append t (digit (n % 10))) (omega arith))

own : IsNumeralModel (λ t. All (λ (c : ℕ). (48 ≤ c) × (c ≤ 57)) t) (read 10 decimal_value)
own =
    numerals_by_fold _ (search rules) (fold (λ (a c : ℕ). 10 * a + (c - 48)))
    (record { empty = λ n. refl; more = λ n c cs h. ap (λ (m : ℕ). fold (λ (a c : ℕ). 10 * a + (c - 48)) m cs) (omega arith) })

pub decimal-parsed : {E : Type 0} (n : ℕ) (r : Result ℕ E) → ParsesUnsigned 16 10 (decimal n) r → n < 65536 → r ≡ Ok n
decimal-parsed n r p l = let v = decimal-reads n in parse_gives own 16 (decimal n) r p (decimal-digits n) (decimal-some n) (omega (arith, v)) ∙ ap Ok v

-- ---- what is asked for

module _ (argument : List ℕ) where
  abbrev spells : ℕ → Bool
  spells n = same_list (decimal n) argument

  -- "n from 2 to 2,304", or one more
  asked-range : (2 ≤ asked argument) × (asked argument ≤ max_points + 1)
  unfolding asked
  asked-range = (first-from spells 2 (max_points + 1), first-le spells 2 (max_points + 1) (omega arith))

  -- a number that is found is the one that the argument spells
  pub asked-spelled : asked argument ≤ max_points → decimal (asked argument) ≡ argument
  unfolding asked
  asked-spelled l = same-equal (decimal (first spells 2 (max_points + 1))) argument (first_holds spells 2 (max_points + 1) (omega arith))

  not-past : (n : ℕ) → 2 ≤ n → n < asked argument → decimal n ≡ argument → ⊥
  unfolding asked
  not-past n g l e = false≢true (sym (first-before spells 2 (max_points + 1) n g l) ∙ ap (same_list (decimal n)) (sym e) ∙ same_self (decimal n))

  -- "n as its one argument, printed like an index": a number from 2 to 2,304 is asked for by its decimal text
  pub asked_is : (n : ℕ) → 2 ≤ n → n ≤ max_points → decimal n ≡ argument → asked argument ≡ n
  asked_is n g l e = elim (dec_lt max_points (asked argument)) [
    | yes m ↦ absurd (not-past n g (omega arith) e)
    | no m ↦ one_number _ n (asked-spelled (omega arith) ∙ sym e)
  ]

  -- and by none else
  pub asked-else : ((n : ℕ) → 2 ≤ n → n ≤ max_points → decimal n ≡ argument → ⊥) → asked argument ≡ max_points + 1
  asked-else h = elim (dec_lt max_points (asked argument)) [
    | yes m ↦ omega (arith, asked-range.1)
    | no m ↦ absurd (h (asked argument) asked-range.0 (omega arith) (asked-spelled (omega arith)))
  ]

  -- so the one number that it can spell is asked for, or none
  pub asked-told : (n : ℕ) → 2 ≤ n → n ≤ max_points → ((m : ℕ) → m < 65536 → decimal m ≡ argument → m ≡ n) → (b : Bool) → b ≡ same_list (decimal n) argument → asked_in (then_some b n) ≡ asked argument
  asked-told n g l one true q = sym (asked_is n g l (same-equal (decimal n) argument (sym q)))
  asked-told n g l one false q = sym (asked-else (λ m h k e. false≢true (q ∙ rw (← one m (omega arith) e, e) (same_self argument))))

-- what is written, by the number that is asked for
worst-step : (argument : List ℕ) → worst_of argument ≡ cond (ltb (asked argument) (max_points + 1)) (worst_file (asked argument)) []
unfolding worst_of
worst-step argument = refl

pub worst-is : (argument : List ℕ) → asked argument ≤ max_points → worst_of argument ≡ worst_file (asked argument)
worst-is argument l = worst-step argument ∙ rw (lt-ltb (asked argument) (max_points + 1) (omega arith))

pub worst-none : (argument : List ℕ) → max_points < asked argument → worst_of argument ≡ []
worst-none argument l = worst-step argument ∙ rw (le-ltb (asked argument) (max_points + 1) (omega arith))

-- "A program takes n as its one argument, printed like an index, and writes a sheet"
pub written-for : (n : ℕ) → 2 ≤ n → n ≤ max_points → worst_of (decimal n) ≡ worst_file n
written-for n g l = let e = asked_is (decimal n) n g l refl in worst-is (decimal n) (omega arith) ∙ ap worst_file e

-- "For anything else it writes nothing."
pub nothing-else : (argument : List ℕ) → ((n : ℕ) → 2 ≤ n → n ≤ max_points → decimal n ≡ argument → ⊥) → worst_of argument ≡ []
nothing-else argument h = worst-none argument (omega (arith, asked-else argument h))
