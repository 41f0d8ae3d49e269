-- The two cases of the ruling on two halves, as the code meets them. Assumes nothing.
use mathlib.Core.Path.{◌≡◌, sym, ap, ◌∙◌}
use mathlib.Core.List.{List}
use Prim.Native.Nat.{ℕ, ◌*◌, ◌≤◌}
use native.Mathlib.Omega.{arith}
use lib.ListN.{length}
use borrow.Author.Tests.{ltb-false}
use Rattle.std.proofs.Common.{Ok}
use Rattle.sort.proofs.Sorted.{sort-length}
use Rattle.cells.specs.Points.{Point}
use Rattle.sheet_file.specs.Bytes.{Bytes}
use Rattle.sheet_file.specs.declared.Settings.{Settings}
use Rattle.points.specs.Refusals.{cell_order, comes_before}
use Rattle.ruling.specs.Ruling.{accepted, ruling_in}
use Rattle.ruling.specs.Accepted.{AcceptedSheet}
use Rattle.ruling.specs.Sheet.{SheetOf, Ruled}
use Rattle.ruling.specs.declared.sheet.Sheet.{Sheet}
use Rattle.ruling.proofs.Given.{for-accepted}
use Rattle.ruling.proofs.Accepted.{listed}
use Rattle.joined.specs.Joined.{joined_list, joined_ruling}
use Rattle.joined.specs.declared.moves.Move.{Move}
use Rattle.joined.proofs.Accepted.{is-accepted, accepted-join}
use Rattle.judging.proofs.Sheets.{RuledSheet, ruled-sheet}
use Rattle.rows.specs.Rows.{row_size}
use Rattle.kept.specs.Answer.{rows_by, kept_by}
use Rattle.kept.specs.declared.Kept.{Kept}
use Rattle.kept.proofs.Cases.{answer-of-kept}
use Rattle.kept_joined.specs.Answer.{joined_answer_of, joined_rows_after}

-- the buffer has room for the rows of a list that is accepted
pub list_fits : (room : ℕ) (s t : Settings) (ps qs : List Point) → ruling_in room s ps ≡ accepted t qs → row_size * length qs ≤ room
list_fits room s t ps qs e =
    let k = listed room s t ps qs e in
    let q : qs ≡ cell_order ps = cc (for-accepted s t ps qs k.ruled-so).1 in
    omega (arith, ap length q, sort-length comes_before ps, ltb-false room (row_size * length ps) k.room-short)

-- a sheet that two accepted halves are joined to
module _ (left right : List ℕ) (m : Move) (rows : List ℕ) (bl : Bytes left) (br : Bytes right) (r : Sheet) (h : Ruled (joined_ruling left right m (length rows)) (Ok r)) where
  abbrev o : RuledSheet (joined_ruling left right m (length rows)) r
  o = ruled-sheet (joined_ruling left right m (length rows)) r h

  abbrev standing : AcceptedSheet o.settings o.points
  standing = accepted-join left right m (length rows) o.settings o.points bl br o.ruled

  pub fit : row_size * r.count ≤ length rows
  fit =
      let j = is-accepted left right m (length rows) o.settings o.points o.ruled in
      rw o.sheet.count-is (list_fits (length rows) o.settings o.settings (joined_list m j.lefts j.rights) o.points j.ruled-so)

  pub answered : {k : Kept} → ((s : Settings) (ps : List Point) → SheetOf s ps r → AcceptedSheet s ps → Ok k ≡ kept_by (accepted s ps)) → Ok k.counts ≡ joined_answer_of left right m (length rows)
  unfolding joined_answer_of
  answered f = rw o.ruled (answer-of-kept (accepted o.settings o.points) (f o.settings o.points o.sheet standing))

  pub rows-joined : {after : List ℕ} → ((s : Settings) (ps : List Point) → SheetOf s ps r → AcceptedSheet s ps → after ≡ rows_by rows (accepted s ps)) → after ≡ joined_rows_after left right m rows
  unfolding joined_rows_after
  rows-joined f = f o.settings o.points o.sheet standing ∙ ap (rows_by rows) (sym o.ruled)
