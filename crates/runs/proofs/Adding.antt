-- One sheet more: what it adds to each sum, and that two sheets add the same in either order; one step of each definition over a list of sheets.
-- Assumes nothing.
use Rattle.std.specs.List.{list_any}
use mathlib.Core.Path.{◌≡◌, refl, ap}
use mathlib.Core.Bool.{false, cond, ◌||◌}
use mathlib.Core.List.{List, [], ◌∷◌, ◌++◌, Option-to_list}
use mathlib.Core.Option.{none, some}
use Prim.{Dec, yes, no}
use Prim.Native.Nat.{ℕ, ◌+◌, ◌≤◌, ◌<◌}
use native.Mathlib.Decide.{dec_lt}
use native.Mathlib.Omega.{arith}
use lib.Dec.{leb, ltb}
use lib.ListN.{length, get_or}
use borrow.Author.Tests.{leb-true, ltb-false}
use Rattle.folds.specs.Below.{every}
use Rattle.folds.proofs.Below.{every-at}
use Rattle.folds.proofs.Lists.{list_at, list_over, list_ext}
use Rattle.view.specs.View.{max_points}
use Rattle.marks.specs.Filters.{filter_count}
use Rattle.runs.specs.Run.{summed, full, with_sheet, Small, Yield, taken, added, run_with, run_over, tallies_in, sum_in, some_full}
use Rattle.runs.specs.declared.Run.{Run}
use Rattle.runs.proofs.Full.{none-at}

-- each sum adds up a number of the tally
pub place-within : (i : ℕ) → i < length summed → get_or summed i 0 ≤ filter_count
unfolding every
place-within i h = leb-true (get_or summed i 0) filter_count (every-at (λ (i : ℕ). leb (get_or summed i 0) filter_count) (length summed) refl i h)

-- ---- the sums with one sheet more

abbrev sum_with : Run → List ℕ → ℕ → ℕ
sum_with r tally i = get_or r.new_sums i 0 + get_or tally (get_or summed i 0) 0

pub old-stands : (r : Run) (tally : List ℕ) → (with_sheet r tally).old_sums ≡ r.old_sums
unfolding with_sheet
old-stands r tally = refl

pub count-up : (r : Run) (tally : List ℕ) → (with_sheet r tally).sheets ≡ r.sheets + 1
unfolding with_sheet
count-up r tally = refl

pub sum-at : (r : Run) (tally : List ℕ) (i : ℕ) → i < length summed → get_or (with_sheet r tally).new_sums i 0 ≡ sum_with r tally i
unfolding with_sheet
sum-at r tally i h = list_at (length summed) (sum_with r tally) i 0 h

sum_over : (r : Run) (tally : List ℕ) (i : ℕ) → length summed ≤ i → get_or (with_sheet r tally).new_sums i 0 ≡ 0
unfolding with_sheet
sum_over r tally i h = list_over (length summed) (sum_with r tally) i 0 h

-- none is up by more than the most points of a sheet
pub sum-le : (r : Run) (tally : List ℕ) (i : ℕ) → Small tally → get_or (with_sheet r tally).new_sums i 0 ≤ get_or r.new_sums i 0 + max_points
sum-le r tally i s = go (dec_lt i (length summed))
  where
    go : Dec (i < length summed) → get_or (with_sheet r tally).new_sums i 0 ≤ get_or r.new_sums i 0 + max_points
    go (yes h) = omega (arith, sum-at r tally i h, s (get_or summed i 0))
    go (no h) = omega (arith, sum_over r tally i (omega (arith, h)))

-- of a tally that is given, as a test
pub small_by : (tally : List ℕ) → list_any (ltb max_points) tally ≡ false → Small tally
small_by tally e f = ltb-false max_points (get_or tally f 0) (none-at (ltb max_points) 0 tally refl e f)

-- ---- two sheets in either order

sheets-swap : (r : Run) (a b : List ℕ) → with_sheet (with_sheet r a) b ≡ with_sheet (with_sheet r b) a
unfolding with_sheet
sheets-swap r a b =
    ap (λ (sums : List ℕ). record { old_sums = r.old_sums; sheets = r.sheets + 1 + 1; new_sums = sums })
    (list_ext 0 (length summed) (sum_with (with_sheet r a) b) (sum_with (with_sheet r b) a) (λ i h. omega (arith, sum-at r a i h, sum-at r b i h)))

pub added-swap : (r : Run) (a b : Yield) → added (added r a) b ≡ added (added r b) a
added-swap r none b = refl
added-swap r (some a) none = refl
added-swap r (some a) (some b) = sheets-swap r a b

-- ---- one sheet after the other

module _ (r : Run) (sheet : Yield) where
  pub taken_is : taken r sheet ≡ cond (full r) none sheet
  unfolding taken
  taken_is = refl

  pub with-is : run_with r sheet ≡ added r (taken r sheet)
  unfolding run_with
  with-is = refl

  pub over-cons : (l : List Yield) → run_over r (sheet ∷ l) ≡ run_over (run_with r sheet) l
  unfolding run_over
  over-cons l = refl

  pub tallies-cons : (l : List Yield) → tallies_in r (sheet ∷ l) ≡ Option-to_list (taken r sheet) ++ tallies_in (run_with r sheet) l
  unfolding tallies_in
  tallies-cons l = refl

  pub full-cons : (l : List Yield) → some_full r (sheet ∷ l) ≡ full r || some_full (run_with r sheet) l
  unfolding some_full
  full-cons l = refl

pub over_none : (r : Run) → run_over r [] ≡ r
unfolding run_over
over_none r = refl

pub full-none : (r : Run) → some_full r [] ≡ false
unfolding some_full
full-none r = refl

pub sum-cons : (f : ℕ) (tally : List ℕ) (l : List (List ℕ)) → sum_in f (tally ∷ l) ≡ get_or tally f 0 + sum_in f l
unfolding sum_in
sum-cons f tally l = refl
