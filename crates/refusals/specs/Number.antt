-- The number of each refusal, and answers with the number in the refusal's place. Assumes nothing.
use Rattle.std.specs.Prelude.{ℕ, Result, Ok, Err}
use Rattle.refusals.specs.declared.Refusal.{Refusal}
use Rattle.refusals.specs.declared.Refusal.TheVariants.{Misframed, TooManyPoints, ShortBuffer, BadSwitch, BadSetting, BadCell, BadPosition, RepeatedCell, TwoPositions, MapTooWide, RunFull, StrengthsLength, BadStrength, TwoStrengths, HighIndex, BadMove, UnlikeHalves}

-- "1. The fields, their order, their lengths or the end of the file differ", "2. There are more than 2,048 points" (2,304 by A.4), "3. The
-- result buffer is shorter than 28 bytes per point", "4. The step flag or a switch is neither 0 nor 1", "5. A float of tag 1 or 2 is not finite
-- or exceeds 16,384 in magnitude", "6. A u or v lies outside −8,000 to 8,000", "7. A position is not finite or exceeds 16,384 in magnitude",
-- "8. Two points have the same cell", "9. One index stands at positions with different bits"; "with 10 .. points that span more than 72 values
-- of u or 60 of v"; "with 11 .. if its record counts 65,535 or more accepted ones or has a new sum of 2^31 or more"; "with 12 .. a tag 4 that
-- is not 4 bytes plus 4 per point; with 13 .. a number in it that is not finite or exceeds 16,384 in magnitude; with 14 .. one index with
-- different strength bits"; "with 15 an index of 2^31 or more in either file; with 16 an offset outside −16,000 to 16,000, or a dx or dy not
-- finite or over 16,384 in magnitude; with 17 a tag 4 in only one file"
abbrev pub refusal_number : Refusal → ℕ
refusal_number Misframed = 1
refusal_number TooManyPoints = 2
refusal_number ShortBuffer = 3
refusal_number BadSwitch = 4
refusal_number BadSetting = 5
refusal_number BadCell = 6
refusal_number BadPosition = 7
refusal_number RepeatedCell = 8
refusal_number TwoPositions = 9
refusal_number MapTooWide = 10
refusal_number RunFull = 11
refusal_number StrengthsLength = 12
refusal_number BadStrength = 13
refusal_number TwoStrengths = 14
refusal_number HighIndex = 15
refusal_number BadMove = 16
refusal_number UnlikeHalves = 17

-- the answer that the documents speak of: "A call returns the first number that applies"
abbrev pub numbered : {T : Type 0} → Result T Refusal → Result T ℕ
numbered (Ok x) = Ok x
numbered (Err e) = Err (refusal_number e)
