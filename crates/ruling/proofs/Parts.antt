-- The ruling in two parts, as the code makes it: the header of a file, and then its points. Assumes nothing.
use mathlib.Core.Path.{◌≡◌, refl, sym, ap, ◌∙◌}
use mathlib.Core.Bool.{cond}
use mathlib.Core.List.{List}
use Prim.Native.Nat.{ℕ}
use native.Mathlib.Omega.{arith}
use lib.Dec.{eqb}
use lib.ListN.{length}
use borrow.Author.Tests.{ltb-false}
use Rattle.std.proofs.Common.{Result, Ok, Err}
use Rattle.refusals.specs.Number.{numbered}
use Rattle.refusals.specs.declared.Refusal.{Refusal}
use Rattle.refusals.proofs.Number.{err-no-ok, above-zero}
use Rattle.refusals.proofs.Laws.{none-applies-in, only_none, ruled-through, ruled-by-number}
use Rattle.view.specs.View.{max_points}
use Rattle.cells.specs.Points.{Point}
use Rattle.sheet_file.specs.Frame.{framing_of, layout_of}
use Rattle.sheet_file.specs.Refusals.{header_refusals, header_of, reading_in, reading_of}
use Rattle.sheet_file.specs.declared.Header.{Header}
use Rattle.sheet_file.specs.declared.Settings.{Settings}
use Rattle.sheet_file.proofs.Fields.{is_framed, framed-held, fitting-len}
use Rattle.points.specs.Records.{points_in, PointsFit}
use Rattle.points.specs.Refusals.{point_refusals, number_for, cell_order}
use Rattle.points.specs.Table.{TableFor}
use Rattle.ruling.specs.Ruling.{Ruling, refused, accepted, ruling_for, ruling_of}
use Rattle.ruling.specs.Sheet.{Ruled}
use Rattle.ruling.specs.declared.sheet.Sheet.{Sheet}
use Rattle.std.specs.Result.{IsErrAnd}
use Rattle.ruling.proofs.Given.{by-points}

abbrev ruling_by : List ℕ → Result Header ℕ → Ruling
ruling_by file (Err k) = refused k
ruling_by file (Ok h) = ruling_for h.settings (points_in file h.layout)

-- the ruling on points by the number that the code hands on
pub by-table : (s : Settings) (ps : List Point) → let x = s.score_frac in cond (eqb (number_for x ps) 0) (accepted s (cell_order ps)) (refused (number_for x ps)) ≡ ruling_for s ps
unfolding ruling_for number_for
by-table s ps = ruled-by-number refused (accepted s (cell_order ps)) (point_refusals s.score_frac ps) refl

pub in_parts : (file : List ℕ) (room : ℕ) → ruling_by file (reading_of file room) ≡ ruling_of file room
unfolding reading_of reading_in
in_parts file room = ruled-through (ruling_by file) Err (Ok (header_of file (layout_of file))) (header_refusals file room (framing_of file)) ∙ sym (by-points file room)

-- a refusal that is handed on
pub handed-on : (x : Ruling) (e : Refusal) (r : Result Sheet Refusal) → IsErrAnd r (λ (d : Refusal). d ≡ e) → Ruled x (Err e) → Ruled x r
handed-on x e (Ok s) h f = absurd h
handed-on x e (Err d) h f = rw h f

-- a refusal of the header
pub header-refused : (file : List ℕ) (room : ℕ) (e : Refusal) → numbered {T = Header} (Err e) ≡ reading_of file room → Ruled (ruling_of file room) (Err e)
header-refused file room e h = rw (← in_parts file room, ← h) refl

-- so a refusal of points is that of their ruling, and their table that of an accepted sheet
pub points-refused : (s : Settings) (ps : List Point) (e : Refusal) → TableFor s.score_frac ps (Err e) → Ruled (ruling_for s ps) (Err e)
points-refused s ps e h = rw (← by-table s ps, ← h, above-zero e) refl

pub points-accepted : (ps : List Point) (r : Sheet) → TableFor r.settings.score_frac ps (Ok r.table) → r.count ≡ length (cell_order ps) → Ruled (ruling_for r.settings ps) (Ok r)
points-accepted ps r h e = rw (← by-table r.settings ps, h.0) (record { settings-are = refl; count-is = e; table_is = h.1 })

-- the points of an accepted header are within the file
pub header-room : (file : List ℕ) (room : ℕ) (h : Header) → Ok h ≡ reading_of file room → PointsFit file h.layout
unfolding reading_of reading_in
header-room file room h e =
    let f = layout_of file in
    let r = only_none Err (Ok (header_of file f)) (Ok h) (λ k y. err-no-ok y) (header_refusals file room (framing_of file)) (sym e) in
    let no = none-applies-in (header_refusals file room (framing_of file)) r.0 in
    let q : header_of file f ≡ h = cc r.1 in
    let l : f ≡ h.layout = ap (λ (x : Header). x.layout) q in
    let held = framed-held file f (is_framed file (no 1)) in
    rw (← l)
    (record {
      records = record { few = ltb-false max_points f.count (no 2); fit = held.fit };
      weights = λ w. omega (arith, held.weights w, fitting-len f w (no 12));
    })
