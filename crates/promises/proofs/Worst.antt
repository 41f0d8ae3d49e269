-- The sheet that the program `worst` writes is accepted, nothing of it is dropped beforehand, and its rounds are one fewer than its points.
-- Assumes nothing.
use mathlib.Core.Path.{◌≡◌, refl, sym, ap, ◌∙◌}
use mathlib.Core.Bool.{Bool, true, false, not, ◌&&◌, ◌||◌}
use mathlib.Core.Logic.{⊎_elim}
use mathlib.Core.List.{List}
use Prim.Native.Nat.{ℕ, ◌-◌, ◌≤◌, ◌<◌, zero-le}
use native.Mathlib.Nat.{eq-or-lt_of_le}
use native.Mathlib.Omega.{arith}
use lib.Dec.{eqb}
use lib.ListN.{get_or}
use Rattle.folds.specs.Below.{some, tally}
use Rattle.folds.proofs.Below.{some-no, some-fails}
use Rattle.folds.specs.Lists.{list_of}
use Rattle.folds.specs.Marked.{bit}
use Rattle.folds.proofs.Marked.{bit_le, tally-four}
use Rattle.offsets.specs.Offsets.{own, square_sides, places}
use Rattle.view.specs.View.{View, max_points}
use Rattle.cells.specs.Points.{Point, nowhere, strengths_of}
use Rattle.cells.specs.Cell.{cell_of, cells_of, coincide, offset_by}
use Rattle.grid.specs.Views.{view_of}
use Rattle.marks.specs.Filters.{validate, orientation, wrong, leaf}
use Rattle.marks.specs.Byte.{has_mark}
use Rattle.drop_set.specs.Filters.{weak_by, point_marks}
use Rattle.peel.specs.Peel.{peeled_of}
use Rattle.ruling.specs.Accepted.{AcceptedSheet}
use Rattle.ruling.proofs.Accepted.{of-file}
use Rattle.peel_rounds.proofs.Row.{row-rounds}
use Rattle.straight_row.proofs.Unmarked.{unmarked}
use Rattle.worst_sheet.specs.Worst.{worst_points, worst_file}
use Rattle.worst_row.specs.Sheet.{worst_settings}
use Rattle.worst_row.proofs.Accepted.{settings-plain, point-is, point-count, worst-accepted, worst-bytes}
use Rattle.worst_row.proofs.Row.{counted, row-view}
use Rattle.worst_row.proofs.Weak.{weak_marks, two-weak}
use Rattle.worst_row.proofs.InRow.{in_row}
use Rattle.promises.specs.Words.{DistinctIndices, marks_in, rounds_of, other_mark, survivor}
use Rattle.promises.specs.Leaves.{WeakEnds}
use Rattle.promises.specs.Longest.{beforehand}
use Rattle.promises.specs.Worst.{WorstPromise, NothingElse}
use Rattle.promises.proofs.Leaves.{rounds-are, weak-ends}
use Rattle.promises.proofs.Longest.{zero-before, longest}
use Rattle.promises.proofs.OfFile.{answer-is}
use Rattle.worst_sheet.proofs.Asked.{written-for, nothing-else}
use Rattle.std.proofs.Math.Bool.{and-false}
use Rattle.std.proofs.lemmas.Bool.{not-true}

module _ (n : ℕ) (few : n ≤ max_points) where
  abbrev ps : List Point
  ps = worst_points n

  abbrev view : View
  view = view_of ps

  abbrev drops : List ℕ
  drops = point_marks worst_settings view (cells_of ps)

  none_dropped : (k : ℕ) → get_or drops k 0 ≡ 0
  none_dropped k = unmarked worst_settings view (cells_of ps) settings-plain (row-view n few) k

  undropped : (k : ℕ) → k < n → beforehand worst_settings ps k ≡ false
  undropped k h = not-true (beforehand worst_settings ps k) (sym (zero-before worst_settings ps k (omega (arith, point-count n few))) ∙ ap (λ (m : ℕ). eqb m 0) (none_dropped k))

  index_is : (k : ℕ) → k < n → (get_or ps k nowhere).index ≡ k
  index_is k h = ap (λ (p : Point). p.index) (point-is n few k h)

  distinct : DistinctIndices ps
  distinct i j h g e =
      let a = index_is i (omega (arith, point-count n few)) in
      let b = index_is j (omega (arith, point-count n few)) in
      omega (arith, a, b, e)

  -- ---- three points or more: they go one by one, up to the last

  many-rounds : 3 ≤ n → rounds_of worst_settings ps ≡ n - 1
  many-rounds three =
      rounds-are worst_settings ps
      ∙ ap (λ (c : ℕ). (peeled_of view (places square_sides) drops (weak_by worst_settings.score_frac c (strengths_of ps))).rounds) (counted n few)
      ∙ row-rounds view drops (weak_marks n) (n - 1) (omega (arith, counted n few)) (in_row n few three drops (λ k h. none_dropped k))

-- ---- two points: both are weak, and go in one round

abbrev pair : List Point
pair = worst_points 2

-- rank j stands at side i of the first
abbrev stands : ℕ → ℕ → Bool
stands i j = coincide (cell_of (get_or pair j nowhere)) (offset_by (get_or square_sides i own) (cell_of (get_or pair 0 nowhere)))

abbrev beside : (ℕ → Bool) → ℕ → Bool
beside survives i = some (λ (j : ℕ). survives j && stands i j) 2

nobody : (survives : ℕ → Bool) (i : ℕ) → some (stands i) 2 ≡ false → beside survives i ≡ false
nobody survives i none = some-no (λ (j : ℕ). survives j && stands i j) 2 (λ j h. ap (λ (b : Bool). survives j && b) (some-fails (stands i) 2 none j h) ∙ and-false (survives j))

-- whoever survives, the first has at most one neighbour
one-neighbour : (survives : ℕ → Bool) → tally (beside survives) 4 ≤ 1
unfolding some list_of
one-neighbour survives = omega (arith, tally-four (beside survives), bit_le (beside survives 0), ap bit (nobody survives 1 refl), ap bit (nobody survives 2 refl), ap bit (nobody survives 3 refl))

pair_small : 2 ≤ max_points
pair_small = omega arith

pair_sheet : AcceptedSheet worst_settings pair
pair_sheet = of-file (worst_file 2) 56 worst_settings pair (worst-bytes 2 pair_small) (worst-accepted 2 pair_small 56 (omega arith))

pair_ends : WeakEnds worst_settings pair
pair_ends = weak-ends worst_settings pair pair_sheet

-- without a mark of the first four filters it survives
unmarked-survives : (m : ℕ) → has_mark validate m || (has_mark orientation m || has_mark wrong m) ≡ false → has_mark leaf m ≡ false → other_mark m ≡ false
unfolding some
unmarked-survives m = go (has_mark validate m) (has_mark orientation m) (has_mark wrong m) (has_mark leaf m)
  where
    go : (v o w l : Bool) → v || (o || w) ≡ false → l ≡ false → ((((false || v) || o) || w) || l) || false ≡ false
    go true o w l e f = e
    go false true w l e f = e
    go false false true l e f = e
    go false false false true e f = f
    go false false false false e f = refl

some-round : rounds_of worst_settings pair ≡ 0 → ⊥
unfolding list_of
some-round e =
    let alive : survivor worst_settings pair 0 ≡ true = ap not (unmarked-survives (marks_in worst_settings pair 0) (undropped 2 pair_small 0 (omega arith)) (pair_ends.none-removed e 0 (omega arith))) in
    omega (arith, pair_ends.left-two 0 alive (two-weak 0 (omega arith)), one-neighbour (survivor worst_settings pair))

two-rounds : rounds_of worst_settings pair ≡ 1
two-rounds =
    let b = (longest worst_settings pair pair_sheet).bound (omega (arith, point-count 2 pair_small)) in
    ⊎_elim (λ (d : 0 ≡ rounds_of worst_settings pair). absurd (some-round (sym d))) (λ (l : 0 < rounds_of worst_settings pair). omega (arith, b, point-count 2 pair_small)) (eq-or-lt_of_le zero-le)

-- ---- every n

rounds-reach : (n : ℕ) → 2 ≤ n → n ≤ max_points → rounds_of worst_settings (worst_points n) ≡ n - 1
rounds-reach n two few =
    ⊎_elim (λ (d : 2 ≡ n). ap (λ (m : ℕ). rounds_of worst_settings (worst_points m)) (sym d) ∙ two-rounds ∙ (omega arith)) (λ (l : 2 < n). many-rounds n few (omega arith)) (eq-or-lt_of_le two)

pub worst : WorstPromise
worst n room two few enough =
    let e = worst-accepted n few room enough in
    record {
      written = written-for n two few;
      bytes = worst-bytes n few;
      ruling = e;
      count = point-count n few;
      distinct = distinct n few;
      undropped = undropped n few;
      rounds = rounds-reach n two few;
      answer = answer-is (worst_file n) room worst_settings (worst_points n) e ∙ rw (point-count n few, rounds-reach n two few);
    }

pub nothing : NothingElse
nothing = nothing-else
