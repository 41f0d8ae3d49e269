-- The two cases of the ruling, as the code meets them. Assumes nothing.
use Rattle.std.proofs.Common.{◌≡◌, ℕ, ◌*◌, ◌/◌, ◌≤◌, Bool, true, false, cond, ltb, List, ◌++◌, drop, length, refl, sym, ap, ◌∙◌, arith, ltb-false}
use Rattle.view.specs.View.{max_points, view_at}
use Rattle.cells.specs.Cell.{Cell, cells_at, cells_of}
use Rattle.grid.specs.Tables.{ranks_of}
use Rattle.sheet_file.specs.Bytes.{Bytes}
use Rattle.ruling.specs.Ruling.{ruling_of}
use Rattle.ruling.specs.Accepted.{AcceptedSheet}
use Rattle.ruling.specs.Sheet.{Ruled}
use Rattle.ruling.specs.declared.sheet.Sheet.{Sheet}
use Rattle.ruling.proofs.Standing.{accepted-order}
use Rattle.ruling.proofs.Accepted.{of-file}
use Rattle.judged.specs.Judged.{Judged}
use Rattle.predict.specs.Fills.{fills_of}
use Rattle.predict.specs.Predict.{Prediction}
use Rattle.drop_set.specs.Filters.{sides_of}
use Rattle.judging.specs.Judging.{judged_by, judged_for, fills_for}
use Rattle.judging.proofs.Sheets.{RuledSheet, ruled-sheet, sheet-cells, sheet-judged, sheet-fills}
use Rattle.kept.proofs.Cases.{rows_fit}
use Rattle.std.specs.Prelude.{Result, Ok}
use Rattle.text.specs.Answer.{Shows}
use Rattle.text.specs.declared.NoRoom.{NoRoom}
use Rattle.sheet_file.specs.declared.Settings.{Settings}
use Rattle.cells.specs.Points.{Point}
use Rattle.sheet_fills.specs.Bytes.{fill_size, fills_bytes, dropped_count}
use Rattle.sheet_fills.specs.Answer.{as_rows, fill_ruling, fill_answer_of, fills_after}
use Rattle.sheet_fills.specs.declared.FillCounts.{FillCounts}
use Rattle.sheet_fills.proofs.Laws.{bytes-long, bytes-few, fits_whole}

-- room for the rows is room for the fills
pub room-for-fills : (room n : ℕ) → 28 * n ≤ as_rows room → n ≤ max_points → fill_size * n ≤ room
room-for-fills room n h m = go (ltb (room / fill_size) max_points) refl h
  where
    go : (b : Bool) → ltb (room / fill_size) max_points ≡ b → 28 * n ≤ cond b (28 * (room / fill_size)) (28 * max_points) → fill_size * n ≤ room
    go true e h = omega arith
    go false e h = omega (arith, ltb-false (room / fill_size) max_points e)

-- a sheet that was read of an accepted file
module _ (file buffer : List ℕ) (bytes : Bytes file) (r : Sheet) (h : Ruled (fill_ruling file (length buffer)) (Ok r)) where
  abbrev room : ℕ
  room = as_rows (length buffer)

  abbrev o : RuledSheet (ruling_of file room) r
  o = ruled-sheet (ruling_of file room) r h

  abbrev standing : AcceptedSheet o.settings o.points
  standing = of-file file room o.settings o.points bytes o.ruled

  -- with the table of ranks, the judged sheet and its fills
  module _ {ranks : List ℕ} (f : ranks ≡ ranks_of r.count r.table.keys r.table.idx) {j : Judged} {fills : List Prediction}
      (e : j ≡ judged_by r.settings r.count r.table.keys r.table.idx r.table.x r.table.y r.table.strength)
      (g : fills ≡ fills_of (view_at r.count ranks r.table.x r.table.y) (sides_of r.settings) j.marks)
      {after : List ℕ} {w : Result ℕ NoRoom} (t : Shows (fills_bytes (cells_at r.table.keys) j.marks fills r.count) buffer after w) where
    abbrev points : List Point
    points = o.points

    abbrev settings : Settings
    settings = o.settings

    -- the bytes, over the cells
    abbrev whole : List ℕ
    whole = fills_bytes (cells_of points) (judged_for settings points).marks (fills_for settings points) (length points)

    same : fills_bytes (cells_at r.table.keys) j.marks fills r.count ≡ whole
    same =
        let judged : j ≡ judged_for settings points = e ∙ sheet-judged r settings points o.sheet standing in
        let filled : fills ≡ fills_for settings points = g ∙ sheet-fills r settings points o.sheet standing f (ap (λ (x : Judged). x.marks) judged) in
        ap (λ (c : ℕ → Cell). fills_bytes c j.marks fills r.count) (sheet-cells r settings points o.sheet standing)
        ∙ ap (λ (x : Judged). fills_bytes (cells_of points) x.marks fills r.count) judged
        ∙ ap (λ (l : List Prediction). fills_bytes (cells_of points) (judged_for settings points).marks l r.count) filled
        ∙ ap (fills_bytes (cells_of points) (judged_for settings points).marks (fills_for settings points)) o.sheet.count-is

    -- there is room for them
    pub fitted : (w ≡ Ok (length whole)) × (after ≡ whole ++ drop (length whole) buffer)
    fitted =
        let size = bytes-few (cells_of points) (judged_for settings points).marks (fills_for settings points) (length points) in
        let fit = room-for-fills (length buffer) (length points) (rows_fit file room settings points o.ruled) (accepted-order file room settings points bytes o.ruled).few in
        fits_whole (rw same at t) (omega (arith, size, fit))

    pub done : {size : ℕ} → w ≡ Ok size → (◌≡◌ {A = Result FillCounts ℕ} (Ok (record { points = r.count; fills = size / fill_size })) (fill_answer_of file (length buffer))) × (after ≡ fills_after file buffer)
    unfolding fill_answer_of fills_after
    done {size} y =
        let long = bytes-long (cells_of points) (judged_for settings points).marks (fills_for settings points) (length points) in
        let u : ◌≡◌ {A = Result ℕ NoRoom} (Ok size) (Ok (length whole)) = sym y ∙ fitted.0 in
        let n : size ≡ length whole = cc u in
        let count : size / fill_size ≡ dropped_count (judged_for settings points).marks (length points) = omega (arith, n, long) in
        rw o.ruled (ap (λ (n : ℕ). Ok (record { points = n; fills = size / fill_size })) o.sheet.count-is ∙ ap (λ (c : ℕ). Ok (record { points = length points; fills = c })) count, fitted.1)
