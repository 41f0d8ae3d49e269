-- The columns of accepted points are as the filters ask. Assumes nothing.
use Rattle.std.specs.Prelude.{Ok}
use mathlib.Core.Path.{◌≡◌, sym, ◌∙◌}
use mathlib.Core.Bool.{false, true≢false}
use mathlib.Core.List.{List}
use Prim.Native.Nat.{ℕ, ◌≤◌}
use native.Mathlib.Omega.{arith}
use lib.Dec.{T}
use lib.ListN.{length, get_or}
use lib.Ieee.{Float, nan, inf, fin}
use lib.Ieee.Scale.{finite}
use Rattle.folds.specs.Arith.{f32}
use Rattle.folds.proofs.Column.{column-at}
use Rattle.view.specs.View.{max_points, Finite}
use Rattle.cells.specs.Points.{Point, nowhere, xs_of, ys_of, strengths_of}
use Rattle.grid.proofs.InOrder.{keys-ready}
use Rattle.sheet_file.specs.Bytes.{Bytes}
use Rattle.sheet_file.specs.Limit.{outside}
use Rattle.sheet_file.specs.declared.Layout.{Layout}
use Rattle.sheet_file.specs.declared.Settings.{Settings}
use Rattle.points.specs.Records.{points_in}
use Rattle.points.specs.Refusals.{cell_order}
use Rattle.points.specs.Table.{Tabled, TableFor}
use Rattle.points.specs.declared.Table.{Table}
use Rattle.points.proofs.Columns.{points-length}
use Rattle.points.proofs.Located.{length-points}
use Rattle.ruling.specs.Arrays.{Arrays}
use Rattle.ruling.proofs.Parts.{by-table}
use Rattle.ruling.proofs.Standing.{Sound, sound-for, words-in}
use Rattle.std.proofs.lemmas.Bool.{or_parts}

inside-finite : (x : Float) → outside x ≡ false → T (finite x)
inside-finite nan e = absurd (true≢false e)
inside-finite (inf s) e = absurd (true≢false e)
inside-finite (fin s m k) e = tt

module _ (ps : List Point) (o : Sound ps) where
  finite-xs : Finite (length ps) (xs_of ps)
  unfolding xs_of
  finite-xs k h = rw (column-at max_points nan (length ps) (λ (k : ℕ). f32 (get_or ps k nowhere).x) k h) (inside-finite _ (or_parts _ _ (o.limits k h)).0)

  finite-ys : Finite (length ps) (ys_of ps)
  unfolding ys_of
  finite-ys k h = rw (column-at max_points nan (length ps) (λ (k : ℕ). f32 (get_or ps k nowhere).y) k h) (inside-finite _ (or_parts _ _ (o.limits k h)).1)

  finite-strengths : Finite (length ps) (strengths_of ps)
  unfolding strengths_of
  finite-strengths k h = rw (column-at max_points nan (length ps) (λ (k : ℕ). f32 (get_or ps k nowhere).strength) k h) (inside-finite _ (o.strengths k h))

  pub arrays-ready : {n : ℕ} {t : Table} → n ≡ length ps → Tabled ps t → Arrays n t.keys t.x t.y t.strength
  arrays-ready size h = record {
    keyed = rw (size, h.keys-are) (keys-ready ps o.order);
    finite-x = rw (size, h.xs-are) finite-xs;
    finite-y = rw (size, h.ys-are) finite-ys;
    finite-strength = rw (size, h.strengths-are) finite-strengths;
  }

-- those of a table that is read of a file with settings s
pub read-arrays : (s : Settings) (file : List ℕ) (f : Layout) {t : Table} → Bytes file → f.count ≤ max_points → TableFor s.score_frac (points_in file f) (Ok t) → Arrays f.count t.keys t.x t.y t.strength
read-arrays s file f bytes few h =
    let ps = points_in file f in
    let standing = sound-for s s ps (cell_order ps) (words-in file f bytes) (omega (arith, few, length-points file f)) (sym (by-table s ps) ∙ rw h.0) in
    arrays-ready (cell_order ps) standing (sym (points-length file f few)) h.1
