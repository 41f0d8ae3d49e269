-- The text of a sheet that two accepted halves are joined to. Assumes nothing.
use mathlib.Core.Path.{◌≡◌, refl}
use mathlib.Core.List.{List}
use Prim.Native.Nat.{ℕ}
use Rattle.std.proofs.Common.{Result, Ok}
use Rattle.cells.specs.Points.{Point}
use Rattle.sheet_file.specs.Bytes.{Bytes}
use Rattle.sheet_file.specs.declared.Settings.{Settings}
use Rattle.ruling.specs.Ruling.{accepted, rows_size}
use Rattle.ruling.specs.Accepted.{AcceptedSheet}
use Rattle.ruling.specs.Sheet.{SheetOf, Ruled}
use Rattle.ruling.specs.declared.sheet.Sheet.{Sheet}
use Rattle.joined.specs.Joined.{joined_ruling}
use Rattle.joined.specs.declared.moves.Move.{Move}
use Rattle.joined.proofs.Accepted.{accepted-join}
use Rattle.judging.proofs.Sheets.{ruled-sheet}
use Rattle.text.specs.Answer.{Shows}
use Rattle.text.specs.declared.NoRoom.{NoRoom}
use Rattle.sheet_listing.specs.Text.{text_by}
use Rattle.joined_listing.specs.Text.{joined_text_of}

-- the text, as one step
pub joined-text-is : (left right : List ℕ) (m : Move) → joined_text_of left right m ≡ text_by (joined_ruling left right m rows_size)
unfolding joined_text_of
joined-text-is left right m = refl

pub listed-join : (left right : List ℕ) (m : Move) (before after : List ℕ) (w : Result ℕ NoRoom) (r : Sheet) → Bytes left → Bytes right → Ruled (joined_ruling left right m rows_size) (Ok r)
    → ((s : Settings) (ps : List Point) → SheetOf s ps r → AcceptedSheet s ps → Shows (text_by (accepted s ps)) before after w) → Shows (joined_text_of left right m) before after w
listed-join left right m before after w r bl br h f =
    let o = ruled-sheet (joined_ruling left right m rows_size) r h in
    rw (joined-text-is left right m, o.ruled) (f o.settings o.points o.sheet (accepted-join left right m rows_size o.settings o.points bl br o.ruled))
