-- An accepted file is one use of what is promised of every accepted sheet: what the call gives of it is that of its settings and points. Assumes
-- nothing.
use Rattle.std.specs.Prelude.{◌≡◌, false, List, ℕ, length, is_some, Ok}
use Rattle.std.proofs.Math.Option as option
use Rattle.cells.specs.Points.{Point}
use Rattle.sheet_file.specs.Bytes.{Bytes}
use Rattle.sheet_file.specs.Frame.{layout_of}
use Rattle.sheet_file.specs.declared.Fraction.TheVariants.{Missing}
use Rattle.sheet_file.specs.declared.Settings.{Settings}
use Rattle.ruling.specs.Ruling.{accepted, ruling_of}
use Rattle.ruling.specs.Accepted.{AcceptedSheet}
use Rattle.judging.specs.Judging.{judged_for}
use Rattle.kept.specs.Answer.{counts_for, rows_by, answer_of, rows_after, tally_of}

-- of a file that is accepted with a result buffer of this length, with settings s and points ps in cell order
pub record OfFile (file : List ℕ) (room : ℕ) (s : Settings) (ps : List Point) : Type 0 where
  -- they are an accepted sheet
  pub sheet : Bytes file → AcceptedSheet s ps
  -- and the counts, the tally and the rows in any such buffer are theirs
  pub answer : answer_of file room ≡ Ok (counts_for s ps)
  pub tally : tally_of file room ≡ option.some (judged_for s ps).tally
  pub rows : (buffer : List ℕ) → length buffer ≡ room → rows_after file buffer ≡ rows_by buffer (accepted s ps)
  -- "tag 4, optional": without it there is no fraction
  pub unweighed : is_some (layout_of file).weights ≡ false → s.score_frac ≡ Missing

-- of every accepted file
abbrev pub OfFilePromise : Type 0
OfFilePromise = (file : List ℕ) (room : ℕ) (s : Settings) (ps : List Point) → ruling_of file room ≡ accepted s ps → OfFile file room s ps
