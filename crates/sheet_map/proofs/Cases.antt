-- The two cases of the ruling, as the code meets them. Assumes nothing.
use mathlib.Core.Path.{◌≡◌, refl, sym, ap, ◌∙◌}
use mathlib.Core.Bool.{Bool, true, false, cond}
use mathlib.Core.List.{List}
use Prim.Native.Nat.{ℕ}
use lib.ListN.{length}
use Rattle.std.proofs.Common.{Ok}
use Rattle.cells.specs.Points.{Point}
use Rattle.cells.specs.Cell.{Cell, cells_at, cells_of}
use Rattle.sheet_file.specs.Bytes.{Bytes}
use Rattle.sheet_file.specs.declared.Settings.{Settings}
use Rattle.ruling.specs.Ruling.{refused, accepted, ruling_of, rows_size}
use Rattle.ruling.specs.Accepted.{AcceptedSheet}
use Rattle.ruling.specs.Sheet.{Ruled}
use Rattle.ruling.specs.declared.sheet.Sheet.{Sheet}
use Rattle.ruling.proofs.Accepted.{of-file}
use Rattle.judging.specs.Judging.{judged_by, judged_for}
use Rattle.judging.proofs.Sheets.{RuledSheet, ruled-sheet, sheet-cells, sheet-judged}
use Rattle.text.specs.Text.{refusal_of}
use Rattle.map_lines.specs.Map.{too_wide, map_of}
use Rattle.sheet_map.specs.Text.{map_by, map_text_of}
use Rattle.sheet_map.proofs.Laws.{text-is, drawn-or-ten}

choice : (t : Bool) (k : ℕ) (s : Settings) (ps : List Point) → map_by (cond t (refused k) (accepted s ps)) ≡ cond t (refusal_of k) (map_by (accepted s ps))
choice true k s ps = refl
choice false k s ps = refl

-- what is printed of n points with these cells and marks
abbrev pub shown : ℕ → (ℕ → Cell) → List ℕ → List ℕ
shown n cell marks = cond (too_wide n cell) (refusal_of 10) (map_of n cell marks)

-- a sheet that was read of an accepted file
module _ (file : List ℕ) (bytes : Bytes file) (r : Sheet) (h : Ruled (ruling_of file rows_size) (Ok r)) where
  abbrev o : RuledSheet (ruling_of file rows_size) r
  o = ruled-sheet (ruling_of file rows_size) r h

  abbrev standing : AcceptedSheet o.settings o.points
  standing = of-file file rows_size o.settings o.points bytes o.ruled

  pub drawn : shown r.count (cells_at r.table.keys) (judged_by r.settings r.count r.table.keys r.table.idx r.table.x r.table.y r.table.strength).marks ≡ map_text_of file
  drawn =
      ap (λ x. shown r.count (cells_at r.table.keys) x.marks) (sheet-judged r o.settings o.points o.sheet standing)
      ∙ ap (λ (n : ℕ). shown n (cells_at r.table.keys) (judged_for o.settings o.points).marks) o.sheet.count-is
      ∙ ap (λ (cell : ℕ → Cell). shown (length o.points) cell (judged_for o.settings o.points).marks) (sheet-cells r o.settings o.points o.sheet standing)
      ∙ sym (text-is file ∙ ap map_by (drawn-or-ten file o.settings o.points o.ruled) ∙ choice (too_wide (length o.points) (cells_of o.points)) 10 o.settings o.points)
