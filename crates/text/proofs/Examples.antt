-- Cell numbers at the right end of six characters, and a refusal. Assumes nothing.
use mathlib.Core.Path.{◌≡◌, refl}
use lib.IntN.{pos, negsuc}
use Rattle.folds.specs.Below.{fold}
use Rattle.text.specs.Text.{bytes, each, digits, decimal, whole, spaces, right_aligned, refusal_of}

least : right_aligned 6 (whole (negsuc 7999)) ≡ bytes " -8000"
unfolding right_aligned spaces each fold whole decimal digits
least = refl

zero : right_aligned 6 (whole (pos 0)) ≡ bytes "     0"
unfolding right_aligned spaces each fold whole decimal digits
zero = refl

-- a text that is too wide stays whole
wide : right_aligned 6 (whole (pos 1234567)) ≡ bytes "1234567"
unfolding right_aligned spaces each fold whole decimal digits
wide = refl

refused : refusal_of 10 ≡ bytes "refused 10\n"
unfolding refusal_of decimal digits
refused = refl
