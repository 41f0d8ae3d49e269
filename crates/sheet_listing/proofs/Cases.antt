-- The two cases of the ruling, as the code meets them. Assumes nothing.
use mathlib.Core.Path.{◌≡◌, ap, ◌∙◌}
use mathlib.Core.List.{List}
use Prim.Native.Nat.{ℕ}
use lib.ListN.{length}
use Rattle.std.proofs.Common.{Result, Ok}
use Rattle.view.specs.View.{view_at}
use Rattle.cells.specs.Points.{Point, indices_of}
use Rattle.cells.specs.Cell.{Cell, cells_at, cells_of}
use Rattle.grid.specs.Tables.{ranks_of}
use Rattle.sheet_file.specs.Bytes.{Bytes}
use Rattle.sheet_file.specs.declared.Settings.{Settings}
use Rattle.ruling.specs.Ruling.{accepted, ruling_of, rows_size}
use Rattle.ruling.specs.Accepted.{AcceptedSheet}
use Rattle.ruling.specs.Sheet.{SheetOf, Ruled}
use Rattle.ruling.specs.declared.sheet.Sheet.{Sheet}
use Rattle.ruling.proofs.Accepted.{of-file}
use Rattle.judged.specs.Judged.{Judged}
use Rattle.predict.specs.Fills.{fills_of}
use Rattle.predict.specs.Predict.{Prediction}
use Rattle.drop_set.specs.Filters.{sides_of}
use Rattle.judging.specs.Judging.{judged_by, judged_for, fills_for}
use Rattle.judging.proofs.Sheets.{ruled-sheet, sheet-cells, sheet-judged, sheet-fills}
use Rattle.listing.specs.Listing.{listing_of}
use Rattle.text.specs.Answer.{Shows}
use Rattle.text.specs.declared.NoRoom.{NoRoom}
use Rattle.sheet_listing.specs.Text.{text_by, text_of}
use Rattle.sheet_listing.proofs.Laws.{text-is}

-- an accepted sheet, with the table of ranks
module _ (r : Sheet) (s : Settings) (ps : List Point) (sheet : SheetOf s ps r) (a : AcceptedSheet s ps) {ranks : List ℕ} (f : ranks ≡ ranks_of r.count r.table.keys r.table.idx) where
  pub listed : {j : Judged} {fills : List Prediction} → j ≡ judged_by r.settings r.count r.table.keys r.table.idx r.table.x r.table.y r.table.strength
      → fills ≡ fills_of (view_at r.count ranks r.table.x r.table.y) (sides_of r.settings) j.marks
      → listing_of r.count (cells_at r.table.keys) r.table.idx j fills ≡ text_by (accepted s ps)
  listed {j} {fills} e g =
      let judged : j ≡ judged_for s ps = e ∙ sheet-judged r s ps sheet a in
      let filled : fills ≡ fills_for s ps = g ∙ sheet-fills r s ps sheet a f (ap (λ (x : Judged). x.marks) judged) in
      ap (λ (x : Judged). listing_of r.count (cells_at r.table.keys) r.table.idx x fills) judged
      ∙ ap (λ (n : ℕ). listing_of n (cells_at r.table.keys) r.table.idx (judged_for s ps) fills) sheet.count-is
      ∙ ap (λ (cell : ℕ → Cell). listing_of (length ps) cell r.table.idx (judged_for s ps) fills) (sheet-cells r s ps sheet a)
      ∙ ap (λ (l : List ℕ). listing_of (length ps) (cells_of ps) l (judged_for s ps) fills) sheet.table_is.indices-are
      ∙ ap (listing_of (length ps) (cells_of ps) (indices_of ps) (judged_for s ps)) filled

-- a sheet that was read of an accepted file
pub listed-file : (file before after : List ℕ) (w : Result ℕ NoRoom) (r : Sheet) → Bytes file → Ruled (ruling_of file rows_size) (Ok r)
    → ((s : Settings) (ps : List Point) → SheetOf s ps r → AcceptedSheet s ps → Shows (text_by (accepted s ps)) before after w) → Shows (text_of file) before after w
listed-file file before after w r b h f =
    let o = ruled-sheet (ruling_of file rows_size) r h in
    rw (text-is file, o.ruled) (f o.settings o.points o.sheet (of-file file rows_size o.settings o.points b o.ruled))
