-- A sheet whose ruling accepts it: its arrays are as the filters ask, and what is judged of them is what is judged of its points.
-- Assumes nothing.
use mathlib.Core.Path.{◌≡◌, refl, ap, ◌∙◌}
use mathlib.Core.List.{List}
use Prim.Native.Nat.{ℕ, ◌≤◌}
use Rattle.std.proofs.Common.{Ok, Err}
use Rattle.refusals.specs.Number.{refusal_number}
use Rattle.refusals.specs.declared.Refusal.{Refusal}
use Rattle.view.specs.View.{max_points, view_at}
use Rattle.cells.specs.Points.{Point}
use Rattle.cells.specs.Cell.{cells_at, cells_of}
use Rattle.cells.proofs.Keys.{cells_are}
use Rattle.grid.specs.InOrder.{CellOrder}
use Rattle.grid.specs.Tables.{ranks_of}
use Rattle.sheet_file.specs.declared.Settings.{Settings}
use Rattle.ruling.specs.Ruling.{Ruling, refused, accepted}
use Rattle.ruling.specs.Accepted.{AcceptedSheet}
use Rattle.ruling.specs.Sheet.{SheetOf, Ruled}
use Rattle.ruling.specs.declared.sheet.Sheet.{Sheet}
use Rattle.ruling.proofs.Accepted.{sound-sheet}
use Rattle.predict.specs.Fills.{fills_of}
use Rattle.drop_set.specs.Filters.{sides_of}
use Rattle.judging.specs.Judging.{judged_by, judged_for, fills_for}
use Rattle.judging.proofs.Laws.{judged-for, fills-for}

-- the ruling accepts, and the sheet is that of its points
pub record RuledSheet (x : Ruling) (r : Sheet) : Type 0 where
  pub settings : Settings
  pub points : List Point
  pub ruled : x ≡ accepted settings points
  pub sheet : SheetOf settings points r

pub ruled-sheet : (x : Ruling) (r : Sheet) → Ruled x (Ok r) → RuledSheet x r
ruled-sheet (refused k) r h = absurd h
ruled-sheet (accepted s ps) r h = record { settings = s; points = ps; ruled = refl; sheet = h }

-- what a refusal says of the ruling
pub refused-sheet : (x : Ruling) (d : Refusal) → Ruled x (Err d) → x ≡ refused (refusal_number d)
refused-sheet (refused k) d h = ap refused h
refused-sheet (accepted s ps) d h = absurd h

module _ (r : Sheet) (s : Settings) (ps : List Point) (sheet : SheetOf s ps r) (a : AcceptedSheet s ps) where
  order : CellOrder ps
  order = (sound-sheet s ps a).order

  pub sheet-cells : cells_at r.table.keys ≡ cells_of ps
  sheet-cells = ap cells_at sheet.table_is.keys-are ∙ cells_are ps order.inside

  pub sheet-judged : judged_by r.settings r.count r.table.keys r.table.idx r.table.x r.table.y r.table.strength ≡ judged_for s ps
  sheet-judged =
      ap (λ (t : Settings). judged_by t r.count r.table.keys r.table.idx r.table.x r.table.y r.table.strength) sheet.settings-are
      ∙ judged-for ps order r.count r.table sheet.count-is sheet.table_is s

  -- with the table of ranks
  module _ {ranks : List ℕ} (e : ranks ≡ ranks_of r.count r.table.keys r.table.idx) where
    pub sheet-fills : {marks : List ℕ} → marks ≡ (judged_for s ps).marks → fills_of (view_at r.count ranks r.table.x r.table.y) (sides_of r.settings) marks ≡ fills_for s ps
    sheet-fills m = rw e (fills-for ps order r.count r.table sheet.count-is sheet.table_is s m)

  pub sheet-few : r.count ≤ max_points
  sheet-few = rw sheet.count-is order.few
