-- The call for the fills, of every file and buffer. Assumes nothing.
use Rattle.std.specs.Prelude.{Err}
use mathlib.Core.Path.{◌≡◌, ap, ◌∙◌}
use mathlib.Core.Bool.{not}
use mathlib.Core.List.{List, ◌++◌}
use Prim.Native.Nat.{ℕ, ◌*◌, ◌≤◌}
use native.Mathlib.Omega.{arith}
use lib.Dec.{eqb, ltb}
use lib.ListN.{length, get_or, drop}
use borrow.Author.Tests.{lt-ltb}
use Rattle.folds.specs.Below.{tally}
use Rattle.folds.proofs.Below.{tally-ext, tally-le}
use Rattle.view.specs.View.{max_points}
use Rattle.cells.specs.Points.{Point}
use Rattle.cells.specs.Cell.{cells_of}
use Rattle.sheet_file.specs.Bytes.{Bytes}
use Rattle.sheet_file.specs.Frame.{layout_of}
use Rattle.sheet_file.specs.declared.Settings.{Settings}
use Rattle.ruling.specs.Ruling.{accepted, applies}
use Rattle.ruling.proofs.Standing.{accepted-order}
use Rattle.judging.specs.Judging.{judged_for, fills_for}
use Rattle.kept.proofs.Cases.{rows_fit}
use Rattle.sheet_fills.specs.Bytes.{fill_size, fills_bytes, dropped_count}
use Rattle.sheet_fills.specs.Answer.{as_rows, fill_ruling, fill_answer_by, fills_by, fill_answer_of, fills_after}
use Rattle.sheet_fills.proofs.Laws.{bytes-long}
use Rattle.sheet_fills.proofs.Cases.{room-for-fills}
use Rattle.sheet_fills.proofs.Bounds.{short-exactly, refused-ruling}
use Rattle.promises.specs.Fills.{dropped_rank, FilledBy, FillCallPromise}

module _ (file buffer : List ℕ) where
  abbrev room : ℕ
  room = as_rows (length buffer)

  nothing_written : (k : ℕ) → fill_answer_of file (length buffer) ≡ Err k → fills_after file buffer ≡ buffer
  unfolding fills_after
  nothing_written k e = ap (fills_by buffer) (refused-ruling file (length buffer) e)

  three-given : (layout_of file).count ≤ max_points → applies file room 3 ≡ ltb (length buffer) (fill_size * (layout_of file).count)
  unfolding applies
  three-given h = short-exactly (length buffer) (layout_of file).count h

  module _ (b : Bytes file) (s : Settings) (ps : List Point) (e : fill_ruling file (length buffer) ≡ accepted s ps) where
    abbrev marks : List ℕ
    marks = (judged_for s ps).marks

    long : length (fills_bytes (cells_of ps) marks (fills_for s ps) (length ps)) ≡ fill_size * dropped_count marks (length ps)
    long = bytes-long (cells_of ps) marks (fills_for s ps) (length ps)

    dropped-are : dropped_count marks (length ps) ≡ tally (dropped_rank s ps) (length ps)
    unfolding dropped_count
    dropped-are = tally-ext (λ (k : ℕ). not (eqb (get_or marks k 0) 0)) (dropped_rank s ps) (length ps) (λ k h. rw (lt-ltb k (length ps) h))

    filled-by : FilledBy s ps file buffer
    unfolding fill_answer_of fills_after
    filled-by = record {
      count = dropped_count marks (length ps);
      dropped = dropped-are;
      answer = ap fill_answer_by e;
      size = long;
      fits = omega (arith, dropped-are, tally-le (dropped_rank s ps) (length ps), room-for-fills (length buffer) (length ps) (rows_fit file room s ps e) (accepted-order file room s ps b e).few);
      buffer-is = ap (fills_by buffer) e ∙ ap (λ (n : ℕ). fills_bytes (cells_of ps) marks (fills_for s ps) (length ps) ++ drop n buffer) long;
    }

pub fill-call : FillCallPromise
unfolding fill_answer_of
fill-call file buffer b = record {
  number = λ k e. ap fill_answer_by e;
  three = three-given file buffer;
  untouched = nothing_written file buffer;
  filled = filled-by file buffer b;
}
