-- The arrays of points in cell order are as the filters ask, and what is judged of them is what is judged of the points. Assumes nothing.
use mathlib.Core.Path.{◌≡◌, ap, ◌∙◌}
use mathlib.Core.List.{List}
use Prim.Native.Nat.{ℕ, ◌≤◌}
use lib.ListN.{length, get_or}
use lib.Ieee.{Float}
use Rattle.view.specs.View.{View, view_at, Ranked}
use Rattle.cells.specs.Points.{Point, keys_of, indices_of, xs_of, ys_of, strengths_of}
use Rattle.cells.specs.Cell.{Cell, cells_at, cells_of}
use Rattle.cells.proofs.Keys.{cells_are}
use Rattle.grid.specs.Tables.{ranks_of}
use Rattle.grid.specs.InOrder.{CellOrder}
use Rattle.grid.specs.Views.{view_of}
use Rattle.grid.proofs.Views.{view-is, ranks-ranked}
use Rattle.grid.proofs.Standing.{keys-small}
use Rattle.grid.proofs.Mirror.{ranks-mirrored}
use Rattle.sheet_file.specs.declared.Settings.{Settings}
use Rattle.points.specs.Table.{Tabled}
use Rattle.points.specs.declared.Table.{Table}
use Rattle.ruling.specs.Arrays.{Arrays}
use Rattle.marks.proofs.Counts.{counts-few}
use Rattle.predict.specs.Fills.{fills_of}
use Rattle.drop_set.specs.Filters.{sides_of, judged_of, measured_of, peeled_marks, patched_of}
use Rattle.drop_set.proofs.Laws.{components-few, rounds-few}
use Rattle.drop_set.specs.Given.{Celled, Weighed}
use Rattle.judging.specs.Judging.{judged_by, judged_for, fills_for}

-- what the filters ask of the arrays
module _ (n : ℕ) (keys idx : List ℕ) (xs ys strength : List Float) {ranks : List ℕ} (a : Arrays n keys xs ys strength) (e : ranks ≡ ranks_of n keys idx) where
  pub are-ranked : Ranked n ranks
  are-ranked = rw e (ranks-ranked n keys idx a.keyed.few)

  pub celled : Celled n keys xs ys
  celled = record { finite-x = a.finite-x; finite-y = a.finite-y; cells = keys-small keys n a.keyed }

  pub weighed : Weighed (view_at n ranks xs ys) strength
  weighed = record { mirrored = rw e (record { back = ranks-mirrored n keys idx a.keyed }); finite = a.finite-strength }

-- what is judged with the table of ranks is what is judged of the arrays
pub ranked-by : (s : Settings) (n : ℕ) (keys idx : List ℕ) (xs ys strength : List Float) {ranks : List ℕ} → ranks ≡ ranks_of n keys idx
    → judged_of s (view_at n ranks xs ys) (cells_at keys) strength ≡ judged_by s n keys idx xs ys strength
ranked-by s n keys idx xs ys strength e = ap (λ (ranks : List ℕ). judged_of s (view_at n ranks xs ys) (cells_at keys) strength) e

same-arrays : (s : Settings) {n m : ℕ} {a a' b b' : List ℕ} {x x' y y' z z' : List Float} → n ≡ m → a ≡ a' → b ≡ b' → x ≡ x' → y ≡ y' → z ≡ z'
    → judged_by s n a b x y z ≡ judged_by s m a' b' x' y' z'
same-arrays s {n} {m} {a} {a'} {b} {b'} {x} {x'} {y} {y'} {z} {z'} e f g h i j =
    ap (λ (k : ℕ). judged_by s k a b x y z) e ∙ ap (λ (l : List ℕ). judged_by s m l b x y z) f ∙ ap (λ (l : List ℕ). judged_by s m a' l x y z) g
    ∙ ap (λ (l : List Float). judged_by s m a' b' l y z) h ∙ ap (λ (l : List Float). judged_by s m a' b' x' l z) i ∙ ap (λ (l : List Float). judged_by s m a' b' x' y' l) j

from-points : (s : Settings) (ps : List Point) → CellOrder ps → judged_by s (length ps) (keys_of ps) (indices_of ps) (xs_of ps) (ys_of ps) (strengths_of ps) ≡ judged_for s ps
unfolding judged_for
from-points s ps o =
    ap (λ (w : View). judged_of s w (cells_at (keys_of ps)) (strengths_of ps)) (view-is ps o) ∙ ap (λ (cell : ℕ → Cell). judged_of s (view_of ps) cell (strengths_of ps)) (cells_are ps o.inside)

module _ (ps : List Point) (o : CellOrder ps) (n : ℕ) (t : Table) (size : n ≡ length ps) (h : Tabled ps t) where
  pub judged-for : (s : Settings) → judged_by s n t.keys t.idx t.x t.y t.strength ≡ judged_for s ps
  judged-for s = same-arrays s size h.keys-are h.indices-are h.xs-are h.ys-are h.strengths-are ∙ from-points s ps o

  -- the view of the arrays is that of the points
  view-for : view_at n (ranks_of n t.keys t.idx) t.x t.y ≡ view_of ps
  view-for = rw (size, h.keys-are, h.indices-are, h.xs-are, h.ys-are) (view-is ps o)

  pub fills-for : (s : Settings) {marks : List ℕ} → marks ≡ (judged_for s ps).marks → fills_of (view_at n (ranks_of n t.keys t.idx) t.x t.y) (sides_of s) marks ≡ fills_for s ps
  unfolding fills_for
  fills-for s {marks} e = ap (λ (w : View). fills_of w (sides_of s) marks) view-for ∙ ap (fills_of (view_of ps) (sides_of s)) e

-- there are at most as many patches as points
pub few-components : (s : Settings) (ps : List Point) → (judged_for s ps).components ≤ length ps
unfolding judged_for judged_of patched_of view_of
few-components s ps = components-few s (view_of ps) (peeled_marks s (view_of ps) (strengths_of ps) (measured_of s (view_of ps) (cells_of ps)).marks)

-- nor are there more rounds
pub few-rounds : (s : Settings) (ps : List Point) → (judged_for s ps).rounds ≤ length ps
unfolding judged_for judged_of patched_of view_of
few-rounds s ps = rounds-few s (view_of ps) (strengths_of ps) (measured_of s (view_of ps) (cells_of ps)).marks

-- and the tally has no larger count
pub few-counted : (s : Settings) (ps : List Point) (f : ℕ) → get_or (judged_for s ps).tally f 0 ≤ length ps
unfolding judged_for judged_of patched_of view_of
few-counted s ps f = counts-few (view_of ps) (judged_for s ps).marks f
