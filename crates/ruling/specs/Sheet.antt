-- The ruling as the code hands it back: the settings and the table of the points, or a refusal. Assumes nothing.
use Rattle.std.specs.Prelude.{◌≡◌, List, length, Result, Ok, Err}
use Rattle.refusals.specs.Number.{refusal_number}
use Rattle.refusals.specs.declared.Refusal.{Refusal}
use Rattle.cells.specs.Points.{Point}
use Rattle.sheet_file.specs.declared.Settings.{Settings}
use Rattle.points.specs.Table.{Tabled}
use Rattle.ruling.specs.Ruling.{Ruling, refused, accepted}
use Rattle.ruling.specs.declared.sheet.Sheet.{Sheet}

-- the sheet has these settings and these points, which are in cell order
pub record SheetOf (s : Settings) (ps : List Point) (r : Sheet) : Type 0 where
  pub settings-are : r.settings ≡ s
  pub count-is : r.count ≡ length ps
  pub table_is : Tabled ps r.table

-- a ruling that refuses is the refusal of its number, and one that accepts the sheet of its points
abbrev pub Ruled : Ruling → Result Sheet Refusal → Type 0
Ruled (refused k) (Ok r) = ⊥
Ruled (refused k) (Err e) = k ≡ refusal_number e
Ruled (accepted s ps) (Ok r) = SheetOf s ps r
Ruled (accepted s ps) (Err e) = ⊥
