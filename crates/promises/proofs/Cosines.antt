-- On every accepted sheet no cosine is NaN, and so a row's edge reason is that of document 01's words: reason 2 where "a continuation cosine" is
-- "under the least", not only the least of them. Assumes nothing.
use Rattle.std.specs.Prelude.{Option, Some}
use mathlib.Core.Path.{◌≡◌, refl, ap, ◌∙◌}
use mathlib.Core.Bool.{false}
use mathlib.Core.List.{List}
use Prim.Native.Nat.{ℕ, ◌+◌, ◌*◌, ◌<◌}
use native.Mathlib.Omega.{arith}
use lib.ListN.{length, get_or}
use lib.Ieee.{nan}
use Rattle.folds.specs.Arith.{f32}
use Rattle.folds.proofs.Lists.{list_at}
use Rattle.folds.proofs.Column.{column-at}
use Rattle.view.specs.View.{View, max_points}
use Rattle.cells.specs.Points.{Point, nowhere, keys_of, indices_of}
use Rattle.grid.specs.InOrder.{CellOrder}
use Rattle.grid.specs.Views.{view_of}
use Rattle.grid.proofs.Views.{view-is, ranks-ranked}
use Rattle.sheet_file.specs.declared.EdgeShapeParams.{EdgeShapeParams}
use Rattle.sheet_file.specs.declared.Settings.{Settings}
use Rattle.points.specs.Refusals.{off_limit}
use Rattle.ruling.specs.Ruling.{accepted}
use Rattle.ruling.specs.Accepted.{AcceptedSheet}
use Rattle.ruling.proofs.Accepted.{sound-sheet}
use Rattle.edge_shape.specs.declared.Figures.{Figures}
use Rattle.edge_shape.specs.Figures.{reason_number, figures_at, index_figures, no_figures}
use Rattle.edge_shape.specs.Continuations.{reason_at}
use Rattle.edge_shape.proofs.Cosines.{Inside, Cosines, cosines}
use Rattle.validate.specs.Validate.{gate_figures, figures_of}
use Rattle.drop_set.specs.Filters.{judged_of, measured_of}
use Rattle.judged.specs.Shown.{shown_at}
use Rattle.judging.specs.Judging.{judged_for}
use Rattle.rows.specs.Rows.{row_of, row_size}
use Rattle.rows.proofs.Theorems.{byte-shown}
use Rattle.kept.specs.Answer.{rows_by}
use Rattle.std.proofs.lemmas.Bool.{or_parts}

-- ---- the positions

inside : (ps : List Point) → ((k : ℕ) → k < length ps → off_limit (get_or ps k nowhere) ≡ false) → Inside (view_of ps)
unfolding view_of
inside ps h = record {
  x = λ k l. rw (list_at (length ps) (λ (k : ℕ). f32 (get_or ps k nowhere).x) k nan l) (or_parts _ _ (h k l)).0;
  y = λ k l. rw (list_at (length ps) (λ (k : ℕ). f32 (get_or ps k nowhere).y) k nan l) (or_parts _ _ (h k l)).1;
}

count-is : (ps : List Point) → (view_of ps).count ≡ length ps
unfolding view_of
count-is ps = refl

-- of every rank of an accepted sheet, with any gate
pub cosines-are-numbers : (s : Settings) (ps : List Point) → AcceptedSheet s ps → (g : EdgeShapeParams) (k : ℕ) → k < length ps → Cosines g (view_of ps) k
cosines-are-numbers s ps a g k h = cosines (view_of ps) (inside ps (sound-sheet s ps a).limits) g k (rw (count-is ps) h)

-- ---- the rows

second-byte : (s : Settings) (ps : List Point) (k : ℕ) → get_or (row_of (shown_at (judged_for s ps) k)) 1 0 ≡ reason_number (get_or (judged_for s ps).figures k no_figures).reason
unfolding row_of shown_at
second-byte s ps k = refl

figures-are : (s : Settings) (ps : List Point) → (judged_for s ps).figures ≡ gate_figures s.edge_shape (view_of ps)
unfolding judged_for judged_of measured_of figures_of
figures-are s ps = refl

-- the entry under rank k's index
entry-is : (g : EdgeShapeParams) (w : View) (k : ℕ) → k < w.count → get_or (index_figures g w) k no_figures ≡ figures_at g w (w.by_idx k)
unfolding index_figures
entry-is g w k h = column-at max_points no_figures w.count (λ (k : ℕ). figures_at g w (w.by_idx k)) k h

pub place-below : (ps : List Point) → CellOrder ps → (k : ℕ) → k < length ps → (view_of ps).by_idx k < length ps
place-below ps o k h = rw (← ap (λ (w : View). w.by_idx k) (view-is ps o)) ((ranks-ranked (length ps) (keys_of ps) (indices_of ps) o.few).indices k h)

-- "Byte 1: reason", with the gate of tag 2: the reason by each continuation, of the entry that is held under the point's index
pub reason-by-each : (buffer : List ℕ) (s : Settings) (ps : List Point) → AcceptedSheet s ps → (g : EdgeShapeParams) → s.edge_shape ≡ Some g → (k : ℕ) → k < length ps
    → get_or (rows_by buffer (accepted s ps)) (row_size * k + 1) 0 ≡ reason_number (reason_at g (view_of ps) ((view_of ps).by_idx k))
reason-by-each buffer s ps a g on k h =
    let w = view_of ps in
    byte-shown (shown_at (judged_for s ps)) (length ps) buffer k 1 h (omega arith)
    ∙ second-byte s ps k
    ∙ ap (λ (f : List Figures). reason_number (get_or f k no_figures).reason) (figures-are s ps ∙ ap (λ (gate : Option EdgeShapeParams). gate_figures gate w) on)
    ∙ ap (λ (f : Figures). reason_number f.reason) (entry-is g w k (rw (count-is ps) h))
    ∙ ap reason_number (cosines-are-numbers s ps a g (w.by_idx k) (place-below ps (sound-sheet s ps a).order k h)).reason
