-- An accepted file is one use of what is promised of every accepted sheet. Assumes nothing.
use Rattle.std.specs.Prelude.{Ok, is_some}
use mathlib.Core.Path.{◌≡◌, ap, ◌∙◌}
use mathlib.Core.Bool.{false}
use mathlib.Core.List.{List}
use Prim.Native.Nat.{ℕ}
use Rattle.cells.specs.Points.{Point}
use Rattle.sheet_file.specs.Frame.{layout_of}
use Rattle.sheet_file.specs.Refusals.{fraction_of}
use Rattle.sheet_file.specs.declared.Fraction.TheVariants.{Missing}
use Rattle.sheet_file.specs.declared.Layout.{Layout}
use Rattle.sheet_file.specs.declared.Settings.{Settings}
use Rattle.ruling.specs.Ruling.{accepted, ruling_of}
use Rattle.ruling.proofs.Accepted.{of-file}
use Rattle.ruling.proofs.Given.{own-fraction}
use Rattle.ruling.proofs.Standing.{accepted-file}
use Rattle.kept.specs.Answer.{counts_for, answer_by, rows_by, tally_by, answer_of, rows_after, tally_of}
use Rattle.promises.specs.OfFile.{OfFilePromise}

pub answer-is : (file : List ℕ) (room : ℕ) (s : Settings) (ps : List Point) → ruling_of file room ≡ accepted s ps → answer_of file room ≡ Ok (counts_for s ps)
unfolding answer_of
answer-is file room s ps e = ap answer_by e

-- without tag 4 there is no fraction
no_fraction : (file : List ℕ) (f : Layout) → is_some f.weights ≡ false → fraction_of file f ≡ Missing
unfolding fraction_of
no_fraction file f w = rw w

pub of-accepted-file : OfFilePromise
unfolding rows_after tally_of
of-accepted-file file room s ps e = record {
  sheet = λ b. of-file file room s ps b e;
  answer = answer-is file room s ps e;
  tally = ap tally_by e;
  rows = λ buffer size. ap (λ (n : ℕ). rows_by buffer (ruling_of file n)) size ∙ ap (rows_by buffer) e;
  unweighed = λ w. ap (λ (t : Settings). t.score_frac) (accepted-file file room s ps e).settings-are ∙ own-fraction file (layout_of file) ∙ no_fraction file (layout_of file) w;
}
