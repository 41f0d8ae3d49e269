-- Each refusal has a number of its own, so an answer is known by that with the number in the refusal's place. Assumes nothing.
use mathlib.Core.Path.{◌≡◌, refl, sym, ap, ◌∙◌}
use mathlib.Core.Bool.{false}
use mathlib.Core.List.{List, [], ◌∷◌}
use Prim.Native.Nat.{ℕ, zero, suc}
use native.Mathlib.Omega.{arith}
use lib.Dec.{eqb}
use lib.ListN.{get_or}
use Rattle.std.proofs.Common.{Result, Ok, Err}
use Rattle.std.specs.Result.{IsErrAnd}
use Rattle.refusals.specs.declared.Refusal.{Refusal}
use Rattle.refusals.specs.declared.Refusal.TheVariants.{Misframed, TooManyPoints, ShortBuffer, BadSwitch, BadSetting, BadCell, BadPosition, RepeatedCell, TwoPositions, MapTooWide, RunFull, StrengthsLength, BadStrength, TwoStrengths, HighIndex, BadMove, UnlikeHalves}
use Rattle.refusals.specs.Number.{refusal_number, numbered}

-- the refusals by their numbers from 1 on
abbrev by-number : List Refusal
by-number = Misframed ∷ TooManyPoints ∷ ShortBuffer ∷ BadSwitch ∷ BadSetting ∷ BadCell ∷ BadPosition ∷ RepeatedCell ∷ TwoPositions ∷ MapTooWide ∷ RunFull ∷ StrengthsLength ∷ BadStrength ∷ TwoStrengths ∷ HighIndex ∷ BadMove ∷ UnlikeHalves ∷ []

abbrev with_number : ℕ → Refusal
with_number zero = Misframed
with_number (suc k) = get_or by-number k Misframed

back : (a : Refusal) → with_number (refusal_number a) ≡ a
back Misframed = refl
back TooManyPoints = refl
back ShortBuffer = refl
back BadSwitch = refl
back BadSetting = refl
back BadCell = refl
back BadPosition = refl
back RepeatedCell = refl
back TwoPositions = refl
back MapTooWide = refl
back RunFull = refl
back StrengthsLength = refl
back BadStrength = refl
back TwoStrengths = refl
back HighIndex = refl
back BadMove = refl
back UnlikeHalves = refl

-- two refusals with one number are one
pub one-refusal : (a b : Refusal) → refusal_number a ≡ refusal_number b → a ≡ b
one-refusal a b e = sym (back a) ∙ ap with_number e ∙ back b

pub err-no-ok : {T E : Type 0} {x : T} {e : E} → ◌≡◌ {A = Result T E} (Err e) (Ok x) → ⊥
err-no-ok e = let z : ◌≡◌ {A = ℕ} 0 1 = cc in omega arith

-- and two answers that are alike with their numbers are one
pub one-answer : {T : Type 0} (r s : Result T Refusal) → numbered r ≡ numbered s → r ≡ s
one-answer (Ok x) (Ok y) e = cc
one-answer (Ok x) (Err b) e = absurd (err-no-ok (sym e))
one-answer (Err a) (Ok y) e = absurd (err-no-ok e)
one-answer (Err a) (Err b) e = ap Err (one-refusal a b cc)

-- no refusal has the number 0, which stands for none
pub above-zero : (a : Refusal) → eqb (refusal_number a) 0 ≡ false
above-zero Misframed = refl
above-zero TooManyPoints = refl
above-zero ShortBuffer = refl
above-zero BadSwitch = refl
above-zero BadSetting = refl
above-zero BadCell = refl
above-zero BadPosition = refl
above-zero RepeatedCell = refl
above-zero TwoPositions = refl
above-zero MapTooWide = refl
above-zero RunFull = refl
above-zero StrengthsLength = refl
above-zero BadStrength = refl
above-zero TwoStrengths = refl
above-zero HighIndex = refl
above-zero BadMove = refl
above-zero UnlikeHalves = refl

-- a refusal that is handed on
pub handed-on : {T : Type 0} (r : Result T Refusal) (e : Refusal) → IsErrAnd r (λ (d : Refusal). d ≡ e) → numbered r ≡ Err (refusal_number e)
handed-on (Ok c) e h = absurd h
handed-on (Err d) e h = ap (λ (x : Refusal). Err (refusal_number x)) h
