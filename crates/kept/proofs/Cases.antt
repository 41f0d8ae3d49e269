-- The two cases of the ruling, as the code meets them. Assumes nothing.
use mathlib.Core.Path.{◌≡◌, refl, sym, ap, ◌∙◌}
use mathlib.Core.List.{List}
use mathlib.Core.Option.{Option, none, some}
use Rattle.std.proofs.Common.{Result, Ok, Err}
use Prim.Native.Nat.{ℕ, ◌*◌, ◌≤◌}
use native.Mathlib.Omega.{arith}
use lib.ListN.{length}
use borrow.Author.Tests.{ltb-false}
use Rattle.cells.specs.Points.{Point}
use Rattle.sheet_file.specs.Bytes.{Bytes}
use Rattle.sheet_file.specs.Frame.{layout_of}
use Rattle.sheet_file.specs.declared.Settings.{Settings}
use Rattle.ruling.specs.Ruling.{Ruling, refused, accepted, ruling_of, applies}
use Rattle.ruling.specs.Accepted.{AcceptedSheet}
use Rattle.ruling.specs.Sheet.{SheetOf, Ruled}
use Rattle.ruling.specs.declared.sheet.Sheet.{Sheet}
use Rattle.ruling.proofs.Given.{none-applies}
use Rattle.ruling.proofs.Standing.{accepted-file}
use Rattle.ruling.proofs.Accepted.{of-file}
use Rattle.judged.specs.Shown.{shown_at}
use Rattle.judged.specs.Judged.{Judged}
use Rattle.judging.specs.Judging.{judged_by, judged_for}
use Rattle.judging.proofs.Sheets.{RuledSheet, ruled-sheet, sheet-judged}
use Rattle.rows.specs.Rows.{row_size, rows_over}
use Rattle.kept.specs.Answer.{Answer, answer_by, rows_by, tally_by, kept_by, answer_of, rows_after, tally_of, kept_of}
use Rattle.kept.specs.declared.Kept.{Kept}

-- what is kept of n points with these findings
abbrev pub kept_with : ℕ → Judged → Kept
kept_with n j = record { counts = record { points = n; components = j.components; rounds = j.rounds }; tally = j.tally }

-- the buffer has room for the rows
pub rows_fit : (file : List ℕ) (room : ℕ) (s : Settings) (ps : List Point) → ruling_of file room ≡ accepted s ps → row_size * length ps ≤ room
unfolding applies
rows_fit file room s ps e = omega (arith, (accepted-file file room s ps e).size, ltb-false room (row_size * (layout_of file).count) (none-applies file room e 3))

-- an accepted sheet, and what is judged of its arrays
module _ (rows : List ℕ) (r : Sheet) (s : Settings) (ps : List Point) (sheet : SheetOf s ps r) (a : AcceptedSheet s ps)
    {j : Judged} (e : j ≡ judged_by r.settings r.count r.table.keys r.table.idx r.table.x r.table.y r.table.strength) where
  judged : j ≡ judged_for s ps
  judged = e ∙ sheet-judged r s ps sheet a

  pub kept-done : Ok (kept_with r.count j) ≡ kept_by (accepted s ps)
  kept-done = ap (λ (n : ℕ). Ok (kept_with n j)) sheet.count-is ∙ ap (λ (x : Judged). Ok (kept_with (length ps) x)) judged

  pub rows-done : {after : List ℕ} → after ≡ rows_over r.count (shown_at j) rows → after ≡ rows_by rows (accepted s ps)
  rows-done f = f ∙ ap (λ (n : ℕ). rows_over n (shown_at j) rows) sheet.count-is ∙ ap (λ (x : Judged). rows_over (length ps) (shown_at x) rows) judged

-- and one that was read of an accepted file
module _ (file rows : List ℕ) (bytes : Bytes file) (r : Sheet) (h : Ruled (ruling_of file (length rows)) (Ok r)) where
  abbrev o : RuledSheet (ruling_of file (length rows)) r
  o = ruled-sheet (ruling_of file (length rows)) r h

  abbrev standing : AcceptedSheet o.settings o.points
  standing = of-file file (length rows) o.settings o.points bytes o.ruled

  pub fit : row_size * r.count ≤ length rows
  fit = rw o.sheet.count-is (rows_fit file (length rows) o.settings o.points o.ruled)

  pub kept-file : {k : Kept} → ((s : Settings) (ps : List Point) → SheetOf s ps r → AcceptedSheet s ps → Ok k ≡ kept_by (accepted s ps)) → Ok k ≡ kept_of file (length rows)
  unfolding kept_of
  kept-file f = f o.settings o.points o.sheet standing ∙ ap kept_by (sym o.ruled)

  pub rows_file : {after : List ℕ} → ((s : Settings) (ps : List Point) → SheetOf s ps r → AcceptedSheet s ps → after ≡ rows_by rows (accepted s ps)) → after ≡ rows_after file rows
  unfolding rows_after
  rows_file f = f o.settings o.points o.sheet standing ∙ ap (rows_by rows) (sym o.ruled)

-- ---- what is kept, and the answer and the tally

abbrev counted : Result Kept ℕ → Answer
counted (Ok k) = Ok k.counts
counted (Err n) = Err n

abbrev tallied : Result Kept ℕ → Option (List ℕ)
tallied (Ok k) = some k.tally
tallied (Err n) = none

pub answer-of-kept : (x : Ruling) {r : Result Kept ℕ} → r ≡ kept_by x → counted r ≡ answer_by x
answer-of-kept x e = ap counted e ∙ go x
  where
    go : (x : Ruling) → counted (kept_by x) ≡ answer_by x
    go (refused k) = refl
    go (accepted s ps) = refl

pub answer-from : (file : List ℕ) (room : ℕ) {r : Result Kept ℕ} → r ≡ kept_of file room → counted r ≡ answer_of file room
unfolding answer_of kept_of
answer-from file room e = answer-of-kept (ruling_of file room) e

pub tally-from : (file : List ℕ) (room : ℕ) {r : Result Kept ℕ} → r ≡ kept_of file room → tally_of file room ≡ tallied r
unfolding tally_of kept_of
tally-from file room e = go (ruling_of file room) ∙ sym (ap tallied e)
  where
    go : (x : Ruling) → tally_by x ≡ tallied (kept_by x)
    go (refused k) = refl
    go (accepted s ps) = refl
