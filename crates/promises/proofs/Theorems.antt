-- The promises hold. Assumes nothing.
use Rattle.std.specs.List.{list_any}
use mathlib.Core.Path.{◌≡◌, sym, ap, ◌∙◌}
use mathlib.Core.Logic.{inl, inr}
use mathlib.Core.List.{List}
use Prim.{yes, no}
use Prim.Native.Nat.{ℕ, ◌<◌}
use native.Mathlib.Decide.{ℕ_discrete}
use lib.Dec.{eqb, ltb}
use lib.ListN.{length}
use borrow.Author.Tests.{ltb-true}
use Rattle.cells.specs.Points.{Point}
use Rattle.cells.specs.Cell.{cells_of}
use Rattle.cells.proofs.Keys.{cell_at}
use Rattle.grid.specs.Views.{view_of}
use Rattle.grid.proofs.Moved.{view-moved}
use Rattle.sheet_file.specs.Bytes.{byte_at}
use Rattle.sheet_file.specs.Frame.{layout_of, layout_in}
use Rattle.sheet_file.specs.declared.Layout.{Layout}
use Rattle.sheet_file.specs.declared.Settings.{Settings}
use Rattle.points.specs.Records.{points_in}
use Rattle.points.specs.Refusals.{off_range}
use Rattle.ruling.specs.Ruling.{Ruling, ruling_of, applies, rows_size}
use Rattle.ruling.proofs.Header.{frame_same}
use Rattle.ruling.proofs.Standing.{accepted-file, accepted-order}
use Rattle.ruling.proofs.Accepted.{sound-sheet}
use Rattle.ruling.proofs.Order.{same-ruling}
use Rattle.ruling.specs.Switches.{switched}
use Rattle.ruling.proofs.Switches.{switches}
use Rattle.ruling.specs.Offset.{moved_file}
use Rattle.ruling.proofs.Offset.{offset}
use Rattle.ruling.proofs.MovedFile.{moved-bytes, moved-offset, moved-in-range}
use Rattle.components.proofs.Whole.{smallest}
use Rattle.marks.specs.Filters.{validate, orientation, wrong, leaf}
use Rattle.marks.specs.Byte.{has_mark}
use Rattle.judging.specs.Judging.{judged_for}
use Rattle.kept.specs.Answer.{counts_for, answer_by, rows_by, tally_by, answer_of, rows_after, tally_of}
use Rattle.sheet_listing.specs.Text.{text_by, text_of}
use Rattle.map_lines.specs.Map.{point_character, line_characters, map_of}
use Rattle.map_lines.proofs.Characters.{first-character, no-full-stop}
use Rattle.map_lines.proofs.Moved.{map-lines}
use Rattle.map_lines.proofs.Places.{line_of_rank, column_of_rank, cell-of-rank, line-drawn, column-drawn, point-byte, empty-byte}
use Rattle.map_lines.proofs.Size.{characters-long, line-no-newline, line-size, few-lines}
use Rattle.sheet_fills.specs.Answer.{as_rows, fill_answer_by, fills_by, fill_answer_of, fills_after}
use Rattle.sheet_map.specs.Text.{map_ruling, map_by, map_ruling_of, map_text_of}
use Rattle.sheet_map.proofs.Laws.{text-is, older-first, ten-given, none-given, is_wide, is-drawn, number-given, never-ten, never-three-drawn}
use Rattle.sheet_map.proofs.Texts.{number-printed, drawn-printed, number_read}
use Rattle.sheet_map.proofs.Whole.{v-within, text-fits}
use Rattle.promises.specs.Words.{marks_in, rounds_of}
use Rattle.promises.proofs.Patch.{none_kept, all-marked, reached-below, largest-kept, roots, patch_of, all-counted, count-on, count-off}
use Rattle.promises.proofs.Tallied.{counts-indices}
use Rattle.promises.proofs.Unswitched.{validate-stays}
use Rattle.promises.proofs.RowMarks.{row-marks, kept-rows}
use Rattle.promises.proofs.Moving.{strengths-moved, validate-in, orientation-in, orientation-stays, wrong_stays, marks_stay, counts-stay, kept-stays, through, answer-stays, rows_stay}
use Rattle.promises.proofs.MovingMap.{ten-moved, ten-before, map-stays}
use Rattle.promises.proofs.OnMap.{cells-apart, kept-shown, only-kept-shown}
use Rattle.promises.specs.Tally.{TallyPromise}
use Rattle.promises.specs.Map.{on_map, MapLinesPromise, MapPointsPromise, MapSizePromise, MapNumbersPromise, MapTextsPromise, TenAlonePromise, OffsetMapPromise, MovedFileMapPromise}
use Rattle.promises.specs.Promises.{RanksAreCells, KeptByRows, KeptPatchPromise, ComponentCountPromise, NoCountPromise, SameResult, AnotherOrderPromise, MovedMarksPromise, OffsetPromise, OffsetRowsPromise, MovedFilePromise, MovedFileRowsPromise, SwitchesPromise, SwitchedRowsPromise}
use Rattle.std.proofs.lemmas.Bool.{and_parts}

pub ranks-are-cells : RanksAreCells
ranks-are-cells s ps a i j ij jn = (sound-sheet s ps a).order.rising i j ij jn

pub kept-by-rows : KeptByRows
kept-by-rows = kept-rows

pub kept-patch : KeptPatchPromise
kept-patch s ps a one on =
    let most = largest-kept s ps (sound-sheet s ps a).order one on in
    record {
      empty = none_kept s ps;
      empty-only = all-marked s ps most;
      largest = most;
      later = λ W p t. elim (most.tie W p t) [
        | inl q ↦ inl q
        | inr q ↦ inr (λ x y f g. ranks-are-cells s ps a y x (q x y f g) (reached-below s ps (p.inner x f.member)))
      ];
      has-smallest = λ W p. smallest (length ps) p (λ k h. reached-below s ps (p.inner k h));
    }

-- the counts, by how many components there are
counted : (s : Settings) (ps : List Point) {n : ℕ} → (judged_for s ps).components ≡ n → counts_for s ps ≡ record { points = length ps; components = n; rounds = rounds_of s ps }
counted s ps e = ap (λ (c : ℕ). record { points = length ps; components = c; rounds = rounds_of s ps }) e

pub component-count : ComponentCountPromise
component-count s ps a on =
    let o = (sound-sheet s ps a).order in
    record { first = roots s ps o; patch = patch_of s ps o; counts = counted s ps (count-on s ps o on); each = all-counted s ps o }

pub no-count : NoCountPromise
no-count s ps off = counted s ps (count-off s ps off)

-- ---- the tally

pub tally-by-index : TallyPromise
tally-by-index = counts-indices

-- ---- another order

-- files that are ruled the same with every buffer have the same result
pub same-results : (file other : List ℕ) → ((room : ℕ) → ruling_of other room ≡ ruling_of file room) → SameResult file other
unfolding answer_of rows_after tally_of text_of map_text_of map_ruling_of fill_answer_of fills_after
same-results file other e = record {
  answer = λ room. ap answer_by (e room);
  rows = λ buffer. ap (rows_by buffer) (e (length buffer));
  tally = λ room. ap tally_by (e room);
  listing = ap text_by (e rows_size);
  map = ap (λ (x : Ruling). map_by (map_ruling x)) (e rows_size);
  fill-answer = λ room. ap fill_answer_by (e (as_rows room));
  fills = λ buffer. ap (fills_by buffer) (e (as_rows (length buffer)));
}

pub another-order : AnotherOrderPromise
another-order file other f b e r = same-results file other (λ room. sym (same-ruling file other f b e r room))

-- ---- an offset

pub moved-marks : MovedMarksPromise
moved-marks x a b s ps m =
    let v = view-moved a b ps m.points m.size m.along in
    let t = strengths-moved a b ps m.points m.size m.along in
    record {
      along = m;
      orientation = orientation-stays s ps m.points m.size v t;
      wrong = wrong_stays s ps m.points m.size v t;
      same = marks_stay s ps m.points m.size v t;
      leaf = λ h k. ap (has_mark leaf) (marks_stay s ps m.points m.size v t h k);
      rounds = λ h. (counts-stay s ps m.points m.size v t h).1;
      counts = λ h. let c = counts-stay s ps m.points m.size v t h in rw (m.size, c.0, c.1);
      kept = kept-stays s ps m.points m.size v t;
    }

pub moved-sheet : OffsetPromise
unfolding applies
moved-sheet file other a b bf bo o room in-range s ps e =
    let framed = (accepted-file file room s ps e).framed in
    let same : layout_of file ≡ layout_of other = sym (ap layout_in (frame_same file other (layout_of file) framed (record { size = o.size; head = o.head; after = λ k l m. o.after k l }))) in
    moved-marks (ruling_of other room) a b s ps (offset file other a b bf bo o (ap (λ (f : Layout). list_any off_range (points_in other f)) same ∙ in-range) room s ps e)

pub moved-rows : OffsetRowsPromise
moved-rows file other buffer a b bf bo o in-range s ps e =
    let r = moved-sheet file other a b bf bo o (length buffer) in-range s ps e in
    let m = r.along in
    let v = view-moved a b ps m.points m.size m.along in
    let t = strengths-moved a b ps m.points m.size m.along in
    record {
      orientation = through s ps m.points m.size v t file other buffer e m.ruling orientation r.orientation;
      wrong = through s ps m.points m.size v t file other buffer e m.ruling wrong r.wrong;
      kept = rows_stay s ps m.points m.size v t file other buffer e m.ruling;
      counts = answer-stays s ps m.points m.size v t file other buffer e m.ruling;
    }

pub moved-file : MovedFilePromise
moved-file file a b bytes room s ps e in-range =
    let o = moved-offset file a b room s ps e in-range in
    moved-sheet file (moved_file file a b) a b bytes (moved-bytes file a b bytes) o room (moved-in-range file a b room s ps e in-range) s ps e

pub moved-file-rows : MovedFileRowsPromise
moved-file-rows file buffer a b bytes s ps e in-range =
    let o = moved-offset file a b (length buffer) s ps e in-range in
    moved-rows file (moved_file file a b) buffer a b bytes (moved-bytes file a b bytes) o (moved-in-range file a b (length buffer) s ps e in-range) s ps e

-- ---- the switches

pub switched-sheet : SwitchesPromise
switched-sheet file other b w full room s ps e =
    let t = switched s (byte_at other 22) (byte_at other 23) in
    record {
      settings = t;
      ruling = switches file other w full room s ps e;
      validate = λ k h. validate-in t ps k h ∙ validate-stays s (byte_at other 22) (byte_at other 23) (view_of ps) (cells_of ps) k ∙ sym (validate-in s ps k h);
      orientation = λ k h. orientation-in t ps k h ∙ sym (orientation-in s ps k h);
    }

pub switched-rows : SwitchedRowsPromise
switched-rows file other buffer b w full s ps e =
    let r = switched-sheet file other b w full (length buffer) s ps e in
    record {
      validate = λ k h. ap (has_mark validate) (row-marks other buffer r.settings ps r.ruling k h) ∙ r.validate k h ∙ ap (has_mark validate) (sym (row-marks file buffer s ps e k h));
      orientation = λ k h. ap (has_mark orientation) (row-marks other buffer r.settings ps r.ruling k h) ∙ r.orientation k h ∙ ap (has_mark orientation) (sym (row-marks file buffer s ps e k h));
    }

-- ---- the map

pub map-of-lines : MapLinesPromise
map-of-lines file s ps b e =
    let d = is-drawn file s ps e in
    let cell = cells_of ps in
    let marks = (judged_for s ps).marks in
    record {
      characters = line_characters (length ps) cell marks;
      whole = text-is file ∙ ap map_by e ∙ map-lines (length ps) cell marks;
      cells = λ i l. characters-long (length ps) cell marks i;
      long = line-size (length ps) cell marks (v-within file b s ps d.ruled);
      no-newline = λ i l. line-no-newline (length ps) cell marks i;
      few = few-lines (length ps) cell d.narrow;
    }

pub map-points : MapPointsPromise
map-points file s ps b e =
    let d = is-drawn file s ps e in
    let n = length ps in
    let cell = cells_of ps in
    let marks = (judged_for s ps).marks in
    let inside = v-within file b s ps d.ruled in
    let text : map_text_of file ≡ map_of n cell marks = text-is file ∙ ap map_by e in
    let apart = cells-apart ps (accepted-order file rows_size s ps b d.ruled) in
    let Shown : ℕ → Type 0 = λ k. on_map (map_text_of file) (line_of_rank n cell k) (column_of_rank n cell k) ≡ point_character (marks_in s ps k) in
    let shown : (k : ℕ) → k < n → Shown k = λ k h. ap (λ (t : List ℕ). on_map t (line_of_rank n cell k) (column_of_rank n cell k)) text ∙ point-byte n cell marks inside d.narrow apart k h in
    record {
      line = line_of_rank n cell;
      column = column_of_rank n cell;
      line-drawn = line-drawn n cell;
      column-drawn = column-drawn n cell d.narrow;
      cell = λ k h. cell-of-rank n cell k h ∙ cell_at ps k h;
      character = shown;
      kept = λ k q. shown k (ltb-true k n (and_parts (ltb k n) (eqb (marks_in s ps k) 0) q).0) ∙ kept-shown s ps k q;
      kept-only = λ k h q. only-kept-shown s ps k h (sym (shown k h) ∙ q);
      letter = λ k f h l q before. shown k h ∙ first-character (marks_in s ps k) f l q before;
      none = λ i j l m f. ap (λ (t : List ℕ). on_map t i j) text ∙ empty-byte n cell marks inside i j l m (λ k h q. f k h (sym (cell_at ps k h) ∙ q));
      none_only = λ k h q. no-full-stop (marks_in s ps k) (sym (shown k h) ∙ q);
    }

pub map-size : MapSizePromise
map-size = text-fits

pub map-numbers : MapNumbersPromise
map-numbers file = record {
  older = older-first file;
  ten = ten-given file;
  ten-only = λ e. let w = is_wide file e in (w.settings, w.points, w.ruled, w.wide);
  none = none-given file;
  known = λ k e. elim (ℕ_discrete k 10) [ yes q ↦ inr q | no n ↦ inl (number-given file k e n) ];
  never-three = never-three-drawn file;
}

pub map-texts : MapTextsPromise
map-texts file b = record {
  older = λ k e. number-printed file k (older-first file k e);
  known = λ k q. (map-numbers file).known k (number_read file b k q);
  ten = λ s ps e w. number-printed file 10 (ten-given file s ps e w);
  ten-only = λ q. (map-numbers file).ten-only (number_read file b 10 q);
  drawn = λ s ps e w. drawn-printed file b s ps (none-given file s ps e w);
}

pub ten-alone : TenAlonePromise
ten-alone = never-ten

pub moved-map : OffsetMapPromise
moved-map file other a b bf bo o in-range s ps e =
    let r = moved-sheet file other a b bf bo o rows_size in-range s ps e in
    let m = r.along in
    record {
      along = m;
      ten = ten-moved file other a b s ps m.points e m.ruling m.size m.along;
      ten-only = ten-before file other a b s ps m.points e m.ruling m.size m.along;
      same = λ h. map-stays file other a b s ps m.points e m.ruling m.size m.along (r.same h);
    }

pub moved-file-map : MovedFileMapPromise
moved-file-map file a b bytes s ps e in-range =
    let o = moved-offset file a b rows_size s ps e in-range in
    moved-map file (moved_file file a b) a b bytes (moved-bytes file a b bytes) o (moved-in-range file a b rows_size s ps e in-range) s ps e
